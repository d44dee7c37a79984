-- Octets that pass through a buffer to a sink.
-- Used by `Output`, and by all that writes through it.
use Rattle.std.proofs.Common.{◌≡◌, ℕ, ◌+◌, List, [], ◌++◌, sym, ap, subst, ◌∙◌, append_assoc, append-nil, length, take, min, arith}
use Rattle.std.specs.Prelude.{Option, Result, Ok, Err, OnErr}
use Rattle.std.proofs.lemmas.Grind.{common_steps}
use Rattle.std.proofs.Math.Seq.{take-append-add}
use Rattle.std.specs.Io.KnownBytes.{Appends}
use Rattle.std.proofs.KnownBytes.{Appends-trans}
use Rattle.counted_io.specs.Device.{AppendsPrefix}
use Rattle.counted_io.specs.Output.{Passes}

pub prefix_after : (a b c : Option (List ℕ)) (front bytes : List ℕ) → Appends a b front → AppendsPrefix b c bytes → AppendsPrefix a c (front ++ bytes)
prefix_after a b c front bytes p q = (
  length front + q.0,
  subst (Appends a c) (sym (take-append-add front bytes q.0)) (Appends-trans a b c front (take q.0 bytes) p q.1),
)

pub take-append-min : (n : ℕ) (xs ys : List ℕ) → take (min n (length xs)) (xs ++ ys) ≡ take n xs
take-append-min n xs ys = grind (arith, common_steps)

pub prefix_longer : (a b : Option (List ℕ)) (bytes more : List ℕ) → AppendsPrefix a b bytes → AppendsPrefix a b (bytes ++ more)
prefix_longer a b bytes more p =
    (min p.0 (length bytes), subst (Appends a b) (sym (take-append-min p.0 bytes more)) p.1)

pub passes_straight : (a b c : Option (List ℕ)) (front bytes : List ℕ) → Appends a b front → Appends b c bytes → Passes a c (front ++ bytes) []
passes_straight a b c front bytes p q = record {
  front = front ++ bytes;
  wrote = Appends-trans a b c front bytes p q;
  split = sym (append-nil (front ++ bytes));
}

pub Passes-push : (a b c : Option (List ℕ)) (text pending bytes left : List ℕ) → Passes a b text pending → Passes b c (pending ++ bytes) left → Passes a c (text ++ bytes) left
Passes-push a b c text pending bytes left p q = record {
  front = p.front ++ q.front;
  wrote = Appends-trans a b c p.front q.front p.wrote q.wrote;
  split = ap (λ l. l ++ bytes) p.split ∙ append_assoc p.front pending bytes ∙ ap (λ l. p.front ++ l) q.split ∙ sym (append_assoc p.front q.front left);
}

pub Passes-written : (a b c : Option (List ℕ)) (text pending bytes : List ℕ) → Passes a b text pending → Appends b c (pending ++ bytes) → Appends a c (text ++ bytes)
Passes-written a b c text pending bytes p q =
    subst (Appends a c) (sym (ap (λ l. l ++ bytes) p.split ∙ append_assoc p.front pending bytes))
    (Appends-trans a b c p.front (pending ++ bytes) p.wrote q)

pub Passes-cut : (a b c : Option (List ℕ)) (text pending bytes : List ℕ) → Passes a b text pending → AppendsPrefix b c (pending ++ bytes) → AppendsPrefix a c (text ++ bytes)
Passes-cut a b c text pending bytes p q =
    subst (AppendsPrefix a c) (sym (ap (λ l. l ++ bytes) p.split ∙ append_assoc p.front pending bytes))
    (prefix_after a b c p.front (pending ++ bytes) p.wrote q)

pub Passes-cut-all : (a b c : Option (List ℕ)) (text pending : List ℕ) → Passes a b text pending → AppendsPrefix b c pending → AppendsPrefix a c text
Passes-cut-all a b c text pending p q = subst (AppendsPrefix a c) (sym p.split) (prefix_after a b c p.front pending p.wrote q)

pub Passes-further : (a b c : Option (List ℕ)) (text pending left : List ℕ) → Passes a b text pending → Passes b c pending left → Passes a c text left
Passes-further a b c text pending left p q = record {
  front = p.front ++ q.front;
  wrote = Appends-trans a b c p.front q.front p.wrote q.wrote;
  split = p.split ∙ ap (λ l. p.front ++ l) q.split ∙ sym (append_assoc p.front q.front left);
}

pub Passes-pieces : (a b c : Option (List ℕ)) (pending text mid bytes left : List ℕ) → Passes a b (pending ++ text) mid → Passes b c (mid ++ bytes) left → Passes a c (pending ++ (text ++ bytes)) left
Passes-pieces a b c pending text mid bytes left p q =
    subst (λ l. Passes a c l left) (append_assoc pending text bytes) (Passes-push a b c (pending ++ text) mid bytes left p q)

pub Passes-cut-piece : (a b c : Option (List ℕ)) (pending text mid bytes : List ℕ) → Passes a b (pending ++ text) mid → AppendsPrefix b c (mid ++ bytes) → AppendsPrefix a c (pending ++ (text ++ bytes))
Passes-cut-piece a b c pending text mid bytes p q =
    subst (AppendsPrefix a c) (append_assoc pending text bytes) (Passes-cut a b c (pending ++ text) mid bytes p q)

pub prefix_piece : (a b : Option (List ℕ)) (pending text bytes : List ℕ) → AppendsPrefix a b (pending ++ text) → AppendsPrefix a b (pending ++ (text ++ bytes))
prefix_piece a b pending text bytes p = subst (AppendsPrefix a b) (append_assoc pending text bytes) (prefix_longer a b (pending ++ text) bytes p)

pub on_err : {T E P : Type 0} → (r : Result T E) → P → OnErr r P
on_err (Ok _) p = tt
on_err (Err _) p = p
