-- A visit is let in, or nothing but the moment changes.
-- By `sets_in` and `waits_in` of `Tabling`, and `refuses` of `Entering`.
use Rattle.std.proofs.Common.{◌≡◌, ◌∙◌, List, ℕ, Result, Ok, cond, length, sym, ap, subst, refl}
use Rattle.std.specs.Str.{bytes_eq}
use Rattle.site_door.specs.declared.admission.Admission.{Admission}
use Rattle.site_door.specs.declared.admission.NoDoor.{NoDoor}
use Rattle.site_door.specs.declared.admission.Admission.TheVariants.{Admitted}
use Rattle.site_door.specs.declared.door.DoorState.{DoorState}
use Rattle.site_door.specs.Doors.{DoorsView, Enters, HasNoDoor, admission_of, door_in, door_of, entered_by, later}
use Rattle.site_door.proofs.Entering.{enter_late, none_seen, refuses}
use Rattle.site_door.proofs.Tabling.{door_seen, seen, sets_in, waits_in}
use Rattle.site_door.proofs.doors.Doors.enter.Goals as goal
use Rattle.site_door.proofs.doors.Doors.enter.Goals.{in-Ok, in-Err}

pub returns-after-set : goal.returns-after-set
returns-after-set c =
    let m = c.self.inside.manners in
    let latest = c.self.inside.latest in
    let after = c.max-self-inside.result in
    let now = c.args.now in
    let site = c.args.site.now in
    let old = c.self.inside.table in
    let new = c.set.new.table in
    let own : c.door_at-door.result ≡ door_of (seen m latest old) site =
    c.door_at-door.ensures ∙ (ap (door_in latest old) c.text.ensures.value ∙ sym (door_seen m latest old site)) in
    let may : admission_of m (door_of (seen m latest old) site) now ≡ Admitted =
    sym (ap (λ (d : DoorState). admission_of m d now) own) ∙ (sym c.admission.ensures ∙ c.in-Admitted.is) in
    let entered : c.enter-door.result ≡ entered_by m now (door_of (seen m latest old) site) = c.enter-door.ensures ∙ ap (entered_by m now) own in
    let door = entered_by m now (door_of (seen m latest old) site) in
    subst (λ (v : DoorsView). Enters v site now c.match-set.result (seen m after new)) c.self.view_is
    (elim c.match-set.branch [
      | in-Ok w ↦ subst (λ (r : Result Admission NoDoor). Enters (seen m latest old) site now r (seen m after new)) (sym w.result-is) (
        may,
        sets_in m latest after now old new c.max-self-inside.ensures site door (enter_late m latest now old site may)
            (λ other. subst (λ (a : List ℕ). door_in after new other ≡ later after (cond (bytes_eq a other) door (door_in after old other))) c.text-in-Admitted.ensures.value
            (subst (λ (d : DoorState). door_in after new other ≡ later after (cond (bytes_eq c.text-in-Admitted.result.now other) d (door_in after old other))) entered (w.in-Ok.ensures.ok other))),
      )
      | in-Err w ↦ subst (λ (r : Result Admission NoDoor). Enters (seen m latest old) site now r (seen m after new)) (sym w.result-is) (
        may,
        none_seen m latest after old new site w.in-Err.none
            (subst (λ (a : List ℕ). HasNoDoor w.in-Err.none (door_in after old a) (length new.entries)) c.text-in-Admitted.ensures.value w.in-Err.ensures.none),
        waits_in m latest after now old new c.max-self-inside.ensures w.in-Err.ensures.err,
      )
    ])

pub returns-in_default : goal.returns-in_default
returns-in_default c =
    let m = c.self.inside.manners in
    let latest = c.self.inside.latest in
    let after = c.max-self-inside.result in
    let now = c.args.now in
    let site = c.args.site.now in
    let old = c.self.inside.table in
    let own : c.door_at-door.result ≡ door_of (seen m latest old) site =
    c.door_at-door.ensures ∙ (ap (door_in latest old) c.text.ensures.value ∙ sym (door_seen m latest old site)) in
    subst (λ (v : DoorsView). Enters v site now (Ok c.admission.result) (seen m after old)) c.self.view_is
    (refuses (seen m latest old) (seen m after old) site now c.admission.result (c.admission.ensures ∙ ap (λ (d : DoorState). admission_of m d now) own) c.in_default.not-Admitted
    (waits_in m latest after now old old c.max-self-inside.ensures (λ other. refl)))
