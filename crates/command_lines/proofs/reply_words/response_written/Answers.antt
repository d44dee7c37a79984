-- The word is cut at its first slash, if any.
use Rattle.std.proofs.Common.{◌≡◌, ◌∙◌, ◌<◌, ℕ, List, Some, None, Bool, true, false, cond, sym, ap, length, arith}
use Rattle.std.specs.List.{after_first, before_first, position_or_len}
use Rattle.std.specs.Path.{slash}
use Rattle.std.proofs.lemmas.Bool.Decides.{nat_tests}
use Rattle.std.proofs.lemmas.Str.Pattern.{split_once_first}
use Rattle.command_lines.specs.Arrival.{has_slash, is_slash, lasting_of, plain_of, response_written}
use Rattle.command_lines.proofs.reply_words.response_written.Goals as goal

says_as : (word : List ℕ) (t : Bool) → has_slash word ≡ t →
    cond t (lasting_of (before_first is_slash word) (after_first is_slash word)) (plain_of word) ≡ response_written word
says_as word t is =
    sym (ap (λ (t : Bool). cond t (lasting_of (before_first is_slash word) (after_first is_slash word)) (plain_of word)) is)

cut_says : (word status life : List ℕ) → position_or_len is_slash word < length word →
    status ≡ before_first is_slash word → life ≡ after_first is_slash word → lasting_of status life ≡ response_written word
cut_says word status life inside before after =
    let has : has_slash word ≡ true = grind (arith, nat_tests) in
    ap (λ (s : List ℕ). lasting_of s life) before ∙ ap (lasting_of (before_first is_slash word)) after ∙ says_as word true has

whole_says : (word : List ℕ) → position_or_len is_slash word ≡ length word → plain_of word ≡ response_written word
whole_says word whole =
    let has : has_slash word ≡ false = grind (arith, nat_tests) in
    says_as word false has

pub returns-in-Some : goal.returns-in-Some
returns-in-Some c =
    let word = c.args.word.now in
    let cut = split_once_first slash word (Some (c.in-Some.status, c.in-Some.life)) c.in-Some.ensures.cases (omega arith) in
    c.lasting_of.ensures ∙ cut_says word c.in-Some.status.now c.in-Some.life.now cut.0 cut.1 cut.2

pub returns-in-None : goal.returns-in-None
returns-in-None c =
    let word = c.args.word.now in
    c.plain_of.ensures ∙ whole_says word (split_once_first slash word None c.in-None.ensures.cases (omega arith))
