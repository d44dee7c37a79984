-- Octets of which some go together: the first of them do too.
use Rattle.std.proofs.Common.{◌∙◌, sym, subst, ℕ, suc, ◌<◌, ◌≤◌, List, take, length, arith, length-take-le}
use Rattle.std.proofs.lemmas.List.{get_or-take}
use Rattle.client_connections.specs.Ahead.{BeginsFetch, HasNoFetchBefore, HasNoFetchBehind}

pub plain-take : (n m : ℕ) (octets : List ℕ) → m ≤ n → m ≤ length octets → HasNoFetchBefore n octets → HasNoFetchBehind (take m octets)
plain-take n m octets fewer fits plain k within ends begins =
    let long = length-take-le m octets fits in
    let inside : suc k < m = omega (arith, within, long) in
    plain k (omega (arith, inside, fewer))
    (sym (get_or-take m octets k 0 (omega (arith, inside))) ∙ ends)
    (subst BeginsFetch (get_or-take m octets (suc k) 0 inside) begins)
