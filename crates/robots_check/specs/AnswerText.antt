-- The lines that a check writes, as docs/FORMATS.md has them.
-- Used by `check` and a line's pieces.
use Rattle.std.specs.Prelude.{ℕ, List, ◌++◌, codes, decimal}
use Rattle.line_text.specs.Escapes.{escaped}
use Rattle.path_normal.specs.Messages.{url_fault_words}
use Rattle.robots_check.specs.Answers.{Answer, allowed_by, allowed_unruled, allowed_robots, denied_by, unread}

-- some words and a URL
abbrev pub url_answer_text : List ℕ → List ℕ → List ℕ
url_answer_text front url = front ++ (escaped url ++ codes "\n")

-- some words, a line's number, kind and value, and a URL
abbrev pub rule_answer_text : (front : List ℕ) (line : ℕ) (kind value url : List ℕ) → List ℕ
rule_answer_text front line kind value url =
    front ++ (decimal line ++ (kind ++ (escaped value ++ (codes " " ++ (escaped url ++ codes "\n")))))

-- the line of an answer to a URL
abbrev pub answer_text : List ℕ → Answer → List ℕ
answer_text url (allowed_by ruled) =
    rule_answer_text (codes "allowed line ") ruled.line (codes " allow ") ruled.pattern url
answer_text url allowed_unruled = url_answer_text (codes "allowed norule ") url
answer_text url allowed_robots = url_answer_text (codes "allowed robots ") url
answer_text url (denied_by ruled) =
    rule_answer_text (codes "denied line ") ruled.line (codes " disallow ") ruled.pattern url
answer_text url (unread fault) = codes "ERR " ++ (url_fault_words fault ++ (codes " " ++ (escaped url ++ codes "\n")))
