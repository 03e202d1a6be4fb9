use Rattle.std.proofs.Common.{◌≡◌, ◌<◌, ℕ, List, Some, map, true}
use Rattle.csv.specs.Reading.{Reached, Ready, is_flexible, reader_config, reader_state, reader_trim, source_of, strip_bom}
use Rattle.csv.specs.declared.parser.State.TheVariants.{StartRecord}
use Rattle.csv.specs.declared.reader.Trim.TheVariants as trims
use Rattle.btreekv_commands.specs.CsvRecords.{ArePairs, reading}
use Rattle.btreekv_commands.specs.Texts.{texts_of}
use Rattle.btreekv_commands.proofs.csv_records.parse_pairs.Given as goal

-- the records that were read are the pairs so far, and the reader goes on behind them
abbrev pub invariant-loop-row : goal.invariant-loop-row
invariant-loop-row l =
    let rdr = l.row-iterator.rdr in
    (0 < l.row-iterator.left) × (reader_trim rdr ≡ trims.None) × Ready rdr × (reader_config rdr ≡ reading l.fn.table) × (is_flexible rdr ≡ true)
    × (rest : List ℕ) × (source_of (λ s. Some s.now) rdr ≡ Some rest)
    × (rows : List (List (List ℕ))) × Reached (reading l.fn.table) StartRecord (strip_bom l.fn.bytes) rows (reader_state rdr) rest × ArePairs rows (map texts_of l.pairs.items)
