-- The base is empty, and each entry's facts compute.
use Rattle.std.proofs.Common.{refl, lit≤, arith}
use Rattle.path_normal.specs.PageText.{authority_of}
use Rattle.gate_history.specs.declared.outcome.Reason.TheVariants.{Open}
use Rattle.gate_history.specs.Base.{IsBase, empty_base}
use Rattle.gate_history.specs.Rows.{foobot, page}
use Rattle.gate_history.proofs.rows.one_fetch_leads_to_its_base.Goals as goal

is_base : IsBase empty_base
is_base = record {
  permits = record { numbers_once = λ n. omega arith; numbers_granted = λ n out. absurd (omega arith); slots_once = λ slot. omega arith };
  turns = record {
    flights_once = λ a. omega arith;
    answers_once = λ a. omega arith;
    turns_once = λ turn. omega arith;
    turns_begun = λ turn stands. absurd (omega arith);
    flights_begun = refl;
    answers_begun = refl;
    lives = refl;
  };
  counts = omega arith;
}

pub returns-clause-legal : goal.returns-clause-legal
unfolding authority_of
returns-clause-legal c = (
  (((is_base, (lit≤ tt, refl, refl)), (lit≤ tt, refl, refl)), (lit≤ tt, refl, (Open, refl))),
  (lit≤ tt, (foobot, (page, (refl, refl)))),
)
