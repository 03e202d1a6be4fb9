use Rattle.std.proofs.Common.{◌≡◌, ℕ, ◌++◌, List, map, string_bytes, take, Bor}
use Rattle.btreekv_commands.specs.Figures.{lines}
use Rattle.btreekv_commands.proofs.figures.write_rows.Given as goal

-- with what is written later, it is what is written of all rows
abbrev pub invariant-rows : goal.invariant-rows
invariant-rows l =
    (later : List (Bor (List ℕ) × ℕ)) → string_bytes l.out ++ lines (map (λ row. (row.0.now, row.1)) later) ≡ string_bytes l.initial.out ++ lines (map (λ row. (row.0.now, row.1)) (take l.name-index l.rows ++ later))
