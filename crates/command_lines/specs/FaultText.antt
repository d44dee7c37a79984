-- The reply line of each fault of a command line, from docs/FORMATS.md.
-- Cited by `fault` and the replies.
use Rattle.std.specs.Prelude.{ℕ, List, codes}
use Rattle.crawl_job.specs.declared.hop.Refusal.TheVariants as refusals
use Rattle.command_lines.specs.declared.fault.LineFault.{LineFault}
use Rattle.command_lines.specs.declared.fault.LineFault.TheVariants as faults
use Rattle.command_lines.specs.RefusalText.{error_of, refusal_word}
use Rattle.path_normal.specs.Messages.{url_fault_words}
use Rattle.path_normal.specs.declared.fault.UrlFault.TheVariants as urls

-- the words of a fault
abbrev pub fault_words : LineFault → List ℕ
fault_words faults.Long = codes "long"
fault_words faults.Lines = codes "lines"
fault_words faults.Chars = codes "chars"
fault_words faults.Words = codes "words"
fault_words faults.Moment = codes "moment"
fault_words faults.Verb = codes "verb"
fault_words faults.Number = codes "number"
fault_words faults.Token = codes "token"
fault_words faults.Authority = codes "authority"
fault_words faults.BadUrl = url_fault_words urls.BadUrl
fault_words faults.NotHttp = url_fault_words urls.NotHttp
fault_words faults.HasUser = url_fault_words urls.HasUser
fault_words faults.LongUrl = url_fault_words urls.TooLong
fault_words faults.Status = codes "status"
fault_words faults.Replies = codes "replies"
fault_words faults.Memory = refusal_word refusals.NoMemory

-- the reply to a faulty line
abbrev pub line_fault_text : LineFault → List ℕ
line_fault_text fault = error_of (fault_words fault)
