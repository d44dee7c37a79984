-- What is found is counted for the authority.
use Rattle.std.proofs.Common.{sym, ap, string_bytes}
use Rattle.std.specs.Prelude.{unwrap_or}
use Rattle.std.specs.Str.{bytes_eq}
use Rattle.std.proofs.lemmas.Slice.Eq.{bytes_eq-Decides}
use Rattle.gate_core.proofs.Counting.{key_passes}
use Rattle.gate_core.proofs.place_counts.PlaceCounts.search.Goals as goal

pub returns-in-Some : goal.returns-in-Some
returns-in-Some c =
    let a = c.args.authority.now in
    let name = c.in-Some._authority.now in
    let passes = key_passes (λ k. bytes_eq a (string_bytes k)) c.args.self.now.by_authority.entries name (sym c.in-Some.ensures.key) in
    record {
      some = (name, c.in-Some.ensures.entry, sym ((bytes_eq-Decides a (string_bytes name)).0 passes));
      none = tt;
      count = ap (λ o. unwrap_or o 0) c.in-Some.ensures.value;
    }
