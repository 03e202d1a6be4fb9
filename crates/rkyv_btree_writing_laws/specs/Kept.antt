-- What stays of a writer's contents, and which types ask for no memory. After an error the contents begin with the old
-- ones, by `BeginsWith` of `Archiving`.
use Rattle.std.specs.Prelude.{ℕ, List}
use Rattle.rkyv_btree_writer.specs.Archiving.{Archival}
use Rattle.rkyv_btree_writer.specs.Writing.{Writing, Appended}

-- t is s with bytes after it, and no write has failed between them
abbrev pub OnlyAppended : Writing → Writing → Type 0
OnlyAppended s t = (bytes : List ℕ) × Appended s bytes t

-- serialising asks for memory for no value of the type
abbrev pub NeverGrows : {X R : Type 0} → Archival X R → Type 0
NeverGrows {X} T = (x : X) → T.Grows x → ⊥
