-- Bytes within a piece.
use Rattle.std.proofs.Common.{◌≡◌, ◌∙◌, ◌+◌, ◌-◌, ◌≤◌, ℕ, List, ap, arith, sym, take, drop}
use Rattle.std.proofs.lemmas.List.{drop-drop, drop-take, take-take}
use Rattle.rkyv_btree_portable.specs.Bytes.{bytes_at}
use Rattle.rkyv_btree_source.specs.Known.{IsPiece}
use Rattle.rkyv_btree_source.specs.declared.piece.Piece.{Piece}

-- those of a part are those of the whole
pub within : (c : List ℕ) (start all ahead len : ℕ) → ahead + len ≤ all → take len (drop ahead (bytes_at c start all)) ≡ bytes_at c (start + ahead) len
within c start all ahead len low =
    let is : all ≡ ahead + (all - ahead) = omega (arith, low) in
    ap (λ n. take len (drop ahead (take n (drop start c)))) is
    ∙ (ap (take len) (drop-take ahead (all - ahead) (drop start c))
    ∙ (take-take len (all - ahead) (drop ahead (drop start c)) (omega (arith, low)) ∙ ap (take len) (drop-drop ahead start c)))

pub in_piece : (b c : List ℕ) (piece : Piece) (place pos ahead len : ℕ) → IsPiece b c piece → ahead + len ≤ piece.len → place ≡ piece.start + ahead → pos ≡ piece.pos + ahead
    → bytes_at c place len ≡ bytes_at b pos len
in_piece b c piece place pos ahead len h low start at =
    ap (λ n. bytes_at c n len) start
    ∙ (sym (within c piece.start piece.len ahead len low) ∙ (ap (λ l. take len (drop ahead l)) h.same ∙ (within b piece.pos piece.len ahead len low ∙ ap (λ n. bytes_at b n len) (sym at))))

-- a part of what a block has is that of the source
pub block_part : (c b : List ℕ) (pos all ahead len : ℕ) → bytes_at c 0 all ≡ bytes_at b pos all → ahead + len ≤ all → bytes_at c ahead len ≡ bytes_at b (pos + ahead) len
block_part c b pos all ahead len same low =
    let first : ahead ≡ 0 + ahead = omega arith in
    ap (λ n. bytes_at c n len) first ∙ (sym (within c 0 all ahead len low) ∙ (ap (λ l. take len (drop ahead l)) same ∙ within b pos all ahead len low))
