-- The text of each fault.
-- Cited by `Display`.
use Rattle.std.specs.Prelude.{ℕ, List, codes}
use Rattle.http_wire.specs.declared.fault.WireFault.{WireFault}
use Rattle.http_wire.specs.declared.fault.WireFault.TheVariants.{EarlyEnd, BadHead, HeadTooLong, TooManyInterim, BadLength, BadChunk, Coding, Device, NoMemory, TooMuch}

-- why no response was read
abbrev pub wire_fault_text : WireFault → List ℕ
wire_fault_text EarlyEnd = codes "the input ended before the response did"
wire_fault_text BadHead = codes "the head can't be read"
wire_fault_text HeadTooLong = codes "the head is too long"
wire_fault_text TooManyInterim = codes "too many interim heads"
wire_fault_text BadLength = codes "the length of the body can't be read"
wire_fault_text BadChunk = codes "the chunks of the body can't be read"
wire_fault_text Coding = codes "the body is in a coding that is not read"
wire_fault_text Device = codes "the device failed"
wire_fault_text NoMemory = codes "no memory for the response"
wire_fault_text TooMuch = codes "the response is too long"
