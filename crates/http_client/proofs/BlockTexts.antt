-- A text is one block's at most, and none if its digits or its bits are none of a block.
use Rattle.std.proofs.Common.{◌≡◌, ◌∙◌, ◌<◌, ◌≤◌, ℕ, List, Option, None, Some, MatchOption, IfSome, Result, Ok, Err, arith, sym, subst}
use Rattle.std.proofs.NetLemmas.Theorems.{IsIpText_unique}
use Rattle.std.specs.Net.Grammar.{IsIpText, IsNumber, Parses}
use Rattle.std.specs.Bool.{⊤}
use Rattle.std.specs.Result.{result_ok}
use Rattle.std.specs.declared.net.ip_addr.IpAddr.{IpAddr}
use Rattle.std.specs.declared.net.ip_addr.IpAddr.TheVariants.{V4, V6}
use Rattle.http_client.specs.Blocks.{HasSlash, IsBlock, IsBlockText, after_slash, before_slash, width_of}
use Rattle.http_client.specs.declared.address_block.AddressBlock.{AddressBlock}

narrow : (address : IpAddr) (bits : ℕ) → bits ≤ width_of address → bits < 256
narrow (V4 address) bits within = omega (arith, within)
narrow (V6 address) bits within = omega (arith, within)

pub parsed :
    {E : Type 0} (text : List ℕ) (r : Result IpAddr E) (address : IpAddr)
    → Some address ≡ result_ok r → Parses IsIpText text r → IsIpText text address
parsed text (Ok other) address same spelled =
    let P : Option IpAddr → Type 0 = λ o. IfSome o (IsIpText text) in subst P (sym same) spelled
parsed text (Err e) address same spelled =
    let P : Option IpAddr → Type 0 = λ o. MatchOption o ⊤ (λ _. ⊥) in absurd (subst P (sym same) tt)

pub no_number :
    (text digits : List ℕ) → digits ≡ after_slash text → ((n : ℕ) → n < 256 → ¬ (IsNumber 10 digits n))
    → (block : AddressBlock) → ¬ (IsBlockText text block)
no_number text digits behind none block is =
    let P : List ℕ → Type 0 = λ d. IsNumber 10 d is.bits in
    none is.bits (narrow is.address is.bits is.block_of.within) (subst P (sym behind) is.bits_text)

pub block_text :
    (text front digits : List ℕ) (address : IpAddr) (bits : ℕ) (r : Option AddressBlock)
    → HasSlash text → front ≡ before_slash text → digits ≡ after_slash text → IsIpText front address → IsNumber 10 digits bits
    → MatchOption r ((block : AddressBlock) → ¬ (IsBlock address bits block)) (IsBlock address bits)
    → MatchOption r ((block : AddressBlock) → ¬ (IsBlockText text block)) (IsBlockText text)
block_text text front digits address bits (Some block) slash before behind ip number is =
    let P : List ℕ → Type 0 = λ d. IsNumber 10 d bits in
    let Q : List ℕ → Type 0 = λ f. IsIpText f address in
    record {
      slash = slash;
      address = address;
      bits = bits;
      address_text = subst Q before ip;
      bits_text = subst P behind number;
      block_of = is;
    }
block_text text front digits address bits None slash before behind ip number none = λ block is.
    let Q : List ℕ → Type 0 = λ f. IsIpText f address in
    let P : List ℕ → Type 0 = λ d. IsNumber 10 d bits in
    let same : is.address ≡ address = IsIpText_unique (before_slash text) is.address address is.address_text (subst Q before ip) in
    let equal : is.bits ≡ bits = sym is.bits_text.1 ∙ (subst P behind number).1 in
    let R : IpAddr → Type 0 = λ a. IsBlock a is.bits block in
    let S : ℕ → Type 0 = λ b. IsBlock address b block in
    none block (subst S equal (subst R same is.block_of))
