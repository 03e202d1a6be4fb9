-- The closure is lent the key and the value that stand there.
use Rattle.std.proofs.Common.{◌≡◌, rules, arith, sym, ◌∙◌, drop, MutBor}
use Rattle.rkyv_btree_portable.specs.Bytes.{bytes_at}
use Rattle.rkyv_btree_seal.proofs.Lending.{shows_front, holds_own, joined}
use Rattle.rkyv_btree_seal.specs.declared.seal.Seal.{Seal}
use Rattle.rkyv_btree_seal.proofs.closures.call_at.Goals as goal

pub f-requires : goal.f-requires
f-requires g c =
    let own : c.at-seal.result.buf.now ≡ bytes_at c.args.buf.now c.args.value g.V.Portable.kind.size = cc in
    let shows = shows_front g.K.Portable.kind g.met.K.Portable.laws c.args.buf.now c.args.key c.args.value c.at-lent.result c.requires.key c.requires.key_first (omega (arith, c.requires.value.inside)) (c.at-lent.ensures.buffer ∙ c.split_at_mut-before.ensures.front) c.at-lent.ensures.position in
    let holds = holds_own g.V.Portable.kind c.args.buf.now c.args.value c.at-seal.result c.requires.value own c.at-seal.ensures.position in
    let may : (y : MutBor (Seal g.row.V.Denot)) → y.now ≡ c.at-seal.result → goal.F-pre g c.args.f c.at-lent.result y = λ y e. c.requires.may.callable c.at-lent.result y shows (rw e holds) in
    search rules

pub returns : goal.returns
returns g c =
    let own : c.at-seal.result.buf.now ≡ bytes_at c.args.buf.now c.args.value g.V.Portable.kind.size = cc in
    let shows = shows_front g.K.Portable.kind g.met.K.Portable.laws c.args.buf.now c.args.key c.args.value c.at-lent.result c.requires.key c.requires.key_first (omega (arith, c.requires.value.inside)) (c.at-lent.ensures.buffer ∙ c.split_at_mut-before.ensures.front) c.at-lent.ensures.position in
    let holds = holds_own g.V.Portable.kind c.args.buf.now c.args.value c.at-seal.result c.requires.value own c.at-seal.ensures.position in
    let kept = c.requires.may.keeps _ _ _ _ shows holds c.f.ensures in
    let same = sym (kept.same_reference ∙ c.at-seal.ensures.same_reference) in
    let behind : c.split_at_mut-own.result.1.now ≡ drop g.V.Portable.kind.size (drop c.args.value c.args.buf.now) = cc in
    record {
      lent = _;
      before = _;
      after = _;
      called = c.f.ensures;
      shows = shows;
      holds = holds;
      keeps = kept;
      bytes = joined _ _ g.V.Portable.kind.size _ _ _ _ c.split_at_mut-before.ensures.front behind (search rules) kept.is_own.size;
    }
