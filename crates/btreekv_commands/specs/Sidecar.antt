-- Sidecars: pieces of an archive, with which a lookup elsewhere reads little of it.
use Rattle.std.specs.Prelude.{◌≡◌, ℕ, ◌-◌, List, [], ◌∷◌, ◌++◌, codes, length}
use Rattle.std.specs.Int.{to_le_bytes, w32, w64}
use Rattle.sha2.specs.Sha256.{sha256}
use Rattle.rkyv_btree_portable.specs.Bytes.{bytes_at}
use Rattle.rkyv_btree_portable.specs.declared.check.Window.{Window}
use Rattle.btreekv_commands.specs.Lines.{Entry}
use Rattle.btreekv_commands.specs.Opening.{IsArchive}
use Rattle.btreekv_commands.specs.Top.{ArePieces}

-- where each piece begins, and how many bytes it has
abbrev pub places : List Window → List ℕ
places [] = []
places (p ∷ ps) = to_le_bytes w32 p.lo ++ (to_le_bytes w32 (p.hi - p.lo) ++ places ps)

-- the bytes of the pieces of an archive
abbrev pub contents : List ℕ → List Window → List ℕ
contents b [] = []
contents b (p ∷ ps) = bytes_at b p.lo (p.hi - p.lo) ++ contents b ps

-- what is before the pieces: the version 1, the type 9 of texts to texts, the archive's length and SHA-256, an ETag of no bytes, and the
-- number of pieces
unfoldable pub header : List ℕ → ℕ → List ℕ
header b count =
    codes "btreetop" ++ (to_le_bytes w32 1 ++ (to_le_bytes w32 9 ++ (to_le_bytes w64 (length b) ++ (sha256 b
    ++ (to_le_bytes w32 0 ++ to_le_bytes w32 count)))))

abbrev pub body : List ℕ → List Window → List ℕ
body b pieces = header b (length pieces) ++ (places pieces ++ contents b pieces)

-- the sidecar of these pieces of an archive: its SHA-256 ends it
abbrev pub sidecar : List ℕ → List Window → List ℕ
sidecar b pieces = body b pieces ++ sha256 (body b pieces)

-- the sidecar of the first levels of an archive
pub record IsSidecar (b : List ℕ) (levels : ℕ) (bytes : List ℕ) : Type 0 where
  pub entries : List Entry
  pub archive : IsArchive b entries
  pub pieces : List Window
  pub top : ArePieces b levels pieces
  pub spelled : bytes ≡ sidecar b pieces
