-- Nothing is left at the end.
use Rattle.std.proofs.Common.{string_bytes, map, refl, arith}
use Rattle.btreekv_commands.specs.Figures.{lines}
use Rattle.btreekv_commands.proofs.SidecarBytes.{nothing_later}
use Rattle.btreekv_commands.proofs.figures.write_rows.Goals as goal

pub returns : goal.returns
returns c =
    nothing_later (λ rows. lines (map (λ row. (row.0.now, row.1)) rows)) (string_bytes c.args.out.now) (string_bytes c.rows.out) c.args.rows.now c.rows.name-index refl (omega arith) c.rows.invariant
