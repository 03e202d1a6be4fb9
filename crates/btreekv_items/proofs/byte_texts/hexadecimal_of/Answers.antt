use Rattle.std.proofs.Common.{rules, ap, ◌∙◌}
use Rattle.hex.proofs.HexLemmas.{decode_of-same}
use Rattle.hex.specs.Hex.{encode_lower}
use Rattle.btreekv_items.specs.laws.ByteStrings.{hexadecimal_decoded as decoded}
use Rattle.btreekv_items.proofs.byte_texts.hexadecimal_of.Goals as goal

pub returns-else-branch-clause-none : goal.returns-else-branch-clause-none
returns-else-branch-clause-none c = λ bytes are same.
    let d = decoded c.args.text.now bytes are same in
    let e = decode_of-same c.args.text.now c.in-Ok.bytes.items bytes (rw c.as_bytes.ensures.value at c.in-Ok.ensures.ok) d in
    let h = ap encode_lower e ∙ same in
    search (rules, h)

pub returns-in-Err-InvalidHexCharacter-clause-none : goal.returns-in-Err-InvalidHexCharacter-clause-none
returns-in-Err-InvalidHexCharacter-clause-none c = λ bytes are same. let d = decoded c.args.text.now bytes are same in search (rules, d)

pub returns-in-Err-OddLength-clause-none : goal.returns-in-Err-OddLength-clause-none
returns-in-Err-OddLength-clause-none c = λ bytes are same. let d = decoded c.args.text.now bytes are same in search (rules, d)

pub returns-in-Err-InvalidStringLength-clause-none : goal.returns-in-Err-InvalidStringLength-clause-none
returns-in-Err-InvalidStringLength-clause-none c = λ bytes are same. let d = decoded c.args.text.now bytes are same in search (rules, d)
