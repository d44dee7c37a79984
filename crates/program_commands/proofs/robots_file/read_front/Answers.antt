-- What is read through the limit is a prefix.
use Rattle.std.proofs.Common.{◌≡◌, ◌++◌, ◌∙◌, ℕ, List, [], ap, subst, take}
use Rattle.std.specs.Prelude.{IfSome, None, Option, Some, option_map}
use Rattle.std.specs.Io.Take.{take_inner, take_limit}
use Rattle.program_commands.proofs.robots_file.read_front.Goals as goal

front_read : (left : Option (List ℕ)) (count limit : ℕ) (body before : List ℕ) → count ≡ limit → before ≡ [] → IfSome (option_map (take count) left) (λ octets. body ≡ before ++ octets) → IfSome left (λ octets. body ≡ take limit octets)
front_read None count limit body before same none is = tt
front_read (Some octets) count limit body before same none is = is ∙ ap (λ l. l ++ take count octets) none ∙ ap (λ n. take n octets) same

pub returns : goal.returns
returns g c =
    subst (λ reader. IfSome (g.R.Read.remaining reader) (λ octets. c.read_to_end.new.buf.items ≡ take 512001 octets)) c.take.ensures.inner
    (front_read (g.R.Read.remaining (take_inner c.take.result)) (take_limit c.take.result) 512001 _ _ c.take.ensures.limit c.new-body.ensures.items c.in_ok-read_to_end.ensures.bytes)
