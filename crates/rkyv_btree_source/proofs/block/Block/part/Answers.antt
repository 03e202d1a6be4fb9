use Rattle.std.proofs.Common.{◌≡◌, ◌∙◌, ◌+◌, ◌-◌, ap, arith, drop, take}
use Rattle.rkyv_btree_portable.specs.Bytes.{bytes_at}
use Rattle.rkyv_btree_source.proofs.Held.{block_part}
use Rattle.rkyv_btree_source.proofs.block.Block.part.Goals as goal

pub returns-clause-same : goal.returns-clause-same
returns-clause-same c b is =
    let ahead = c.args.pos - c.args.self.now.pos in
    let count : ahead + c.args.len - ahead ≡ c.args.len = omega arith in
    let place : c.args.self.now.pos + ahead ≡ c.args.pos = omega (arith, c.if-pos-self.false) in
    ap (λ n. take n (drop ahead c.args.self.now.bytes)) count
    ∙ (block_part c.args.self.now.bytes b c.args.self.now.pos c.args.self.now.len ahead c.args.len is (omega (arith, c.if-from-held.false, c.if-len-held.false)) ∙ ap (λ n. bytes_at b n c.args.len) place)
