-- A piece is stripped as it is spelled.
use Rattle.std.proofs.Common.{List, ℕ, ap, ◌∙◌, subst, sym}
use Rattle.std.specs.Char.{to_ascii_lowercase}
use Rattle.std.proofs.lemmas.List.Concat.{flat_map_single}
use Rattle.line_text.specs.Pieces.{piece_text}
use Rattle.line_text.specs.Strips.{Strips}
use Rattle.line_text.proofs.piece.Piece.strip.Goals as goal

pub returns-in-LowerCase : goal.returns-in-LowerCase
returns-in-LowerCase c =
    subst (λ (front : List ℕ). Strips front c.args.text.now c.strip-in-LowerCase.result)
    (flat_map_single to_ascii_lowercase c.in-LowerCase.octets.now ∙ sym (ap piece_text c.in-LowerCase.is)) c.strip-in-LowerCase.ensures

pub returns-in-Escaped : goal.returns-in-Escaped
returns-in-Escaped c =
    subst (λ (front : List ℕ). Strips front c.args.text.now c.strip-in-Escaped.result) (sym (ap piece_text c.in-Escaped.is)) c.strip-in-Escaped.ensures

pub returns-in-Body : goal.returns-in-Body
returns-in-Body c =
    subst (λ (front : List ℕ). Strips front c.args.text.now c.strip-in-Body.result) (sym (ap piece_text c.in-Body.is)) c.strip-in-Body.ensures
