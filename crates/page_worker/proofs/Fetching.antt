-- The walk of a refresh up to its answer.
-- Used by `fetch_answer`.
use Rattle.std.proofs.Common.{◌≡◌, ◌≤◌, ◌++◌, ◌∷◌, [], ℕ, List, Result, length, map, refl, sym, ◌∙◌, subst, arith, length-append}
use Rattle.std.proofs.lemmas.List.{length-map, map-append}
use Rattle.path_normal.specs.PageText.{robots_url_of}
use Rattle.authority_cache.specs.Lives.{Timed}
use Rattle.http_wire.specs.declared.fault.WireFault.{WireFault}
use Rattle.http_wire.specs.declared.response.HttpReply.{HttpReply}
use Rattle.robots_fetch.specs.declared.walk.Step.TheVariants.{Go, Done}
use Rattle.robots_fetch.specs.declared.walk.Walk.{Walk}
use Rattle.robots_fetch.specs.Redirects.{most_redirects}
use Rattle.path_normal.specs.declared.schemes.Schemes.{Schemes}
use Rattle.robots_fetch.specs.Steps.{IsBegun, StepsAmong}
use Rattle.robots_fetch.specs.Walk.{EndsWalkAmong, LeadsAmong, LeadsOverAmong}
use Rattle.fetchers.specs.Walks.{AreLed, robots_reply_of}
use Rattle.page_worker.specs.Refreshes.{IsFetched}

led_more : (schemes : Schemes) (gives : List ℕ → Result HttpReply WireFault → Type 0) (url mid end : List ℕ)
    (way : List (Result HttpReply WireFault)) (given : Result HttpReply WireFault) →
    AreLed schemes gives url way mid → gives mid given → LeadsAmong schemes mid (robots_reply_of given) end → AreLed schemes gives url (way ++ given ∷ []) end
led_more schemes gives url mid end [] given led is leads =
    (subst (λ u. gives u given) (sym led) is, (end, (subst (λ u. LeadsAmong schemes u (robots_reply_of given) end) (sym led) leads, refl)))
led_more schemes gives url mid end (one ∷ way) given led is leads =
    (led.0, (led.1.0, (led.1.1.0, led_more schemes gives led.1.0 mid end way given led.1.1.1 is leads)))

led_over : (schemes : Schemes) (gives : List ℕ → Result HttpReply WireFault → Type 0) (url end : List ℕ)
    (way : List (Result HttpReply WireFault)) → AreLed schemes gives url way end → LeadsOverAmong schemes url (map robots_reply_of way) end
led_over schemes gives url end [] led = led
led_over schemes gives url end (given ∷ way) led = (led.1.0, (led.1.1.0, led_over schemes gives led.1.0 end way led.1.1.1))

-- a walk for an authority that has followed redirects
pub record IsUnderWay
    (schemes : Schemes) (gives : List ℕ → Result HttpReply WireFault → Type 0) (authority : List ℕ) (walk : Walk) : Type 0 where
  pub way : List (Result HttpReply WireFault)
  pub are_led : AreLed schemes gives (robots_url_of authority) way walk.url
  pub are_all : walk.followed ≡ length way
  pub are_few : walk.followed ≤ most_redirects

pub begin_walk : (schemes : Schemes) (gives : List ℕ → Result HttpReply WireFault → Type 0) (authority : List ℕ) (walk : Walk) →
    IsBegun authority walk → IsUnderWay schemes gives authority walk
begin_walk schemes gives authority walk begun =
    record { way = []; are_led = sym begun.0; are_all = begun.1; are_few = omega (arith, begun.1) }

pub go_on : (schemes : Schemes) (gives : List ℕ → Result HttpReply WireFault → Type 0) (authority : List ℕ) (walk next : Walk)
    (given : Result HttpReply WireFault) → IsUnderWay schemes gives authority walk → gives walk.url given →
    StepsAmong schemes walk (robots_reply_of given) (Go next) → IsUnderWay schemes gives authority next
go_on schemes gives authority walk next given under is steps = record {
  way = under.way ++ given ∷ [];
  are_led = led_more schemes gives (robots_url_of authority) walk.url next.url under.way given under.are_led is steps.0;
  are_all = omega (arith, length-append under.way (given ∷ []), under.are_all, steps.2);
  are_few = omega (arith, steps.1, steps.2);
}

pub fetched : (schemes : Schemes) (gives : List ℕ → Result HttpReply WireFault → Type 0) (authority : List ℕ) (walk : Walk)
    (given : Result HttpReply WireFault) (answer : Timed) → IsUnderWay schemes gives authority walk →
    gives walk.url given → StepsAmong schemes walk (robots_reply_of given) (Done answer) → IsFetched schemes gives authority answer.says answer.life
fetched schemes gives authority walk given answer under is steps =
    let all : walk.followed ≡ length (map robots_reply_of under.way) = under.are_all ∙ sym (length-map under.way robots_reply_of) in
    record {
      way = under.way;
      url = walk.url;
      last = given;
      are_led = under.are_led;
      is_given = is;
      decided = record {
        way = map robots_reply_of under.way;
        last = robots_reply_of given;
        url = walk.url;
        are_all = map-append robots_reply_of under.way (given ∷ []);
        are_few = omega (arith, all, under.are_few);
        leads = led_over schemes gives (robots_url_of authority) walk.url under.way under.are_led;
        ends = subst (λ n. EndsWalkAmong schemes n walk.url (robots_reply_of given) answer.says) all steps.0;
        lives = steps.1;
      };
    }
