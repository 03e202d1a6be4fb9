use Rattle.std.proofs.Common.{ℕ, ◌≤◌, ◌-◌, length, take, drop, sym, subst, arith, length-take}
use Rattle.std.specs.Io.KnownBytes.{Appends}
use Rattle.rkyv_btree_writer.proofs.StdWrites.{appends-kept, appends-more}
use Rattle.rkyv_btree_writer.proofs.io_writer.hand_on.Goals as goal
use Rattle.rkyv_btree_writer.proofs.io_writer.hand_on.Goals.{in-Ok, in-Err+else-ne}

pub loop-preserved : goal.loop-preserved
loop-preserved g c =
    let bytes = c.args.bytes.now in
    let Kept : ℕ → Type 0 = λ count. (count ≤ length bytes) × Appends (g.W.Write.contents c.args.writer.now) (g.W.Write.contents c.write.new.self) (take count bytes) in
    let inside = c.loop.invariant.0 in
    elim c.match-write.branch [
      | in-Ok w ↦
          let fits : w.in-Ok.more ≤ length bytes - c.loop.count = omega (arith, w.in-Ok.ensures.bound, length-take (length bytes - c.loop.count) (drop c.loop.count bytes)) in
          subst Kept (sym w.count-is) (omega (arith, fits, inside), appends-more _ _ _ bytes c.loop.count w.in-Ok.more inside c.loop.invariant.1 w.in-Ok.ensures.bytes fits)
      | in-Err+else-ne w ↦ subst Kept (sym w.count-is) (inside, appends-kept _ _ _ _ c.loop.invariant.1 w.in-Err.ensures.bytes)
    ]
