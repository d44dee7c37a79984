-- One visit less is under way, if one was.
-- By `sets_in` and `stays_in` of `Tabling`.
use Rattle.std.proofs.Common.{◌≡◌, ◌∙◌, ◌+◌, ◌≤◌, List, ℕ, true, false, refl, cond, length, max, sym, ap, subst, arith}
use Rattle.std.specs.Prelude.{nat_lt}
use Rattle.std.specs.Str.{bytes_eq}
use Rattle.std.proofs.lemmas.Bool.{le-ltb, lt-ltb}
use Rattle.site_door.specs.declared.door.DoorState.{DoorState}
use Rattle.site_door.specs.Doors.{DoorsView, Sets, door_in, door_of, is_idle, is_left_idle, kept_count, later, left_by}
use Rattle.site_door.proofs.Entering.{counts_if, counts_none, left_late, none_leaves}
use Rattle.site_door.proofs.Tabling.{door_seen, many_seen, seen, sets_in, stays_in}
use Rattle.site_door.proofs.doors.Doors.leave.Goals as goal

pub returns-then-door-gt0-clause-leaves : goal.returns-then-door-gt0-clause-leaves
returns-then-door-gt0-clause-leaves c =
    let m = c.self.inside.manners in
    let latest = c.self.inside.latest in
    let after = c.max-self-inside.result in
    let now = c.args.now in
    let site = c.args.site.now in
    let old = c.self.inside.table in
    let new = c.reset.new.table in
    let own : c.door_at-door.result ≡ door_of (seen m latest old) site =
    c.door_at-door.ensures ∙ (ap (door_in latest old) c.text.ensures.value ∙ sym (door_seen m latest old site)) in
    let left : c.leave-left.result ≡ left_by m now c.args.pause (door_of (seen m latest old) site) = c.leave-left.ensures ∙ ap (left_by m now c.args.pause) own in
    let door = left_by m now c.args.pause (door_of (seen m latest old) site) in
    subst (λ (v : DoorsView). Sets v now site (left_by v.manners now c.args.pause (door_of v site)) (seen m after new)) c.self.view_is
    (sets_in m latest after now old new c.max-self-inside.ensures site door (left_late m latest now old site c.args.pause)
    (λ other. subst (λ (a : List ℕ). door_in after new other ≡ later after (cond (bytes_eq a other) door (door_in after old other))) c.text-then-door-gt0.ensures.value
    (subst (λ (d : DoorState). door_in after new other ≡ later after (cond (bytes_eq c.text-then-door-gt0.result.now other) d (door_in after old other))) left (c.reset.ensures.doors other))))

pub returns-then-door-gt0-clause-idle : goal.returns-then-door-gt0-clause-idle
returns-then-door-gt0-clause-idle c =
    let m = c.self.inside.manners in
    let latest = c.self.inside.latest in
    let now = c.args.now in
    let site = c.args.site.now in
    let old = c.self.inside.table in
    let new = c.reset.new.table in
    let own : c.door_at-door.result ≡ door_of (seen m latest old) site =
    c.door_at-door.ensures ∙ (ap (door_in latest old) c.text.ensures.value ∙ sym (door_seen m latest old site)) in
    let left : c.leave-left.result ≡ left_by m now c.args.pause (door_of (seen m latest old) site) = c.leave-left.ensures ∙ ap (left_by m now c.args.pause) own in
    let door = left_by m now c.args.pause (door_of (seen m latest old) site) in
    let some : nat_lt 0 (door_of (seen m latest old) site).under_way ≡ true =
    subst (λ (d : DoorState). nat_lt 0 d.under_way ≡ true) own (lt-ltb 0 c.door_at-door.result.under_way c.if-door-gt0.true) in
    let one = counts_if (nat_lt 0 (door_of (seen m latest old) site).under_way) (is_idle (max latest now) door) some in
    let many : length new.entries + cond (is_idle (max latest now) door) 1 0 ≡ length old.entries =
    subst (λ (d : DoorState). length new.entries + cond (is_idle (max latest now) d) 1 0 ≡ length old.entries) left
    (subst (λ (n : ℕ). length new.entries + cond (is_idle n c.leave-left.result) 1 0 ≡ length old.entries) c.max-self-inside.ensures c.reset.ensures.many) in
    let long = many_seen m c.max-self-inside.result new in
    let short = many_seen m latest old in
    subst (λ (v : DoorsView). cond (is_left_idle v site now c.args.pause) 1 0 + kept_count (seen m c.max-self-inside.result new) ≡ kept_count v) c.self.view_is
    (omega (arith, one, many, long, short))

pub returns-else-door-gt0-clause-leaves : goal.returns-else-door-gt0-clause-leaves
returns-else-door-gt0-clause-leaves c =
    let m = c.self.inside.manners in
    let latest = c.self.inside.latest in
    let after = c.max-self-inside.result in
    let now = c.args.now in
    let site = c.args.site.now in
    let old = c.self.inside.table in
    let own : c.door_at-door.result ≡ door_of (seen m latest old) site =
    c.door_at-door.ensures ∙ (ap (door_in latest old) c.text.ensures.value ∙ sym (door_seen m latest old site)) in
    subst (λ (v : DoorsView). Sets v now site (left_by v.manners now c.args.pause (door_of v site)) (seen m after old)) c.self.view_is
    (stays_in m latest after now old old c.max-self-inside.ensures site (left_by m now c.args.pause (door_of (seen m latest old) site))
    (none_leaves m now c.args.pause (door_of (seen m latest old) site) (subst (λ (d : DoorState). d.under_way ≤ 0) own c.if-door-gt0.false)) (λ other. refl))

pub returns-else-door-gt0-clause-idle : goal.returns-else-door-gt0-clause-idle
returns-else-door-gt0-clause-idle c =
    let m = c.self.inside.manners in
    let latest = c.self.inside.latest in
    let now = c.args.now in
    let site = c.args.site.now in
    let old = c.self.inside.table in
    let own : c.door_at-door.result ≡ door_of (seen m latest old) site =
    c.door_at-door.ensures ∙ (ap (door_in latest old) c.text.ensures.value ∙ sym (door_seen m latest old site)) in
    let none : nat_lt 0 (door_of (seen m latest old) site).under_way ≡ false =
    subst (λ (d : DoorState). nat_lt 0 d.under_way ≡ false) own (le-ltb 0 c.door_at-door.result.under_way c.if-door-gt0.false) in
    let zero = counts_none (nat_lt 0 (door_of (seen m latest old) site).under_way) (is_idle (max latest now) (left_by m now c.args.pause (door_of (seen m latest old) site))) none in
    subst (λ (v : DoorsView). cond (is_left_idle v site now c.args.pause) 1 0 + kept_count (seen m c.max-self-inside.result old) ≡ kept_count v) c.self.view_is
    (omega (arith, zero))
