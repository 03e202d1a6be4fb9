-- What was serialised, with the map written over it, is accepted.
use Rattle.std.proofs.Common.{◌≡◌, ℕ, ◌+◌, ◌%◌, ◌^◌, ◌<◌, ◌≤◌, ◌∙◌, Bool, true, false, ◌||◌, nat_eq, List, [], ◌∷◌, ◌++◌, length, take, refl, sym, ap, subst, arith, inl, inr, if◌then◌else◌, pos}
use Rattle.std.proofs.lemmas.Bool.{ne_eqb}
use Rattle.std.proofs.lemmas.Bool.Decides.{nat_tests}
use Rattle.std.proofs.lemmas.List.{append_assoc, length-append, take_at, drop_at}
use Rattle.std.specs.Int.{w32, to_le_bytes}
use Rattle.rkyv_btree_portable.specs.Bytes.{number_at, place_at, Holds}
use Rattle.rkyv_btree_writer.specs.Padding.{padding}
use Rattle.rkyv_btree_writing_laws.specs.Archives.{HoldsArchive, HoldsRoot, WrittenIsHeld}
use Rattle.rkyv_btree_writing_laws.specs.Image.{root_bytes, root_reaches, root_image}
use Rattle.rkyv_btree_writing_laws.specs.Kept.{OnlyAppended}
use Rattle.rkyv_btree_portable.specs.Kind.{Kind, IsLawful}
use Rattle.rkyv_btree_format.specs.Layout.{layout_of}
use Rattle.rkyv_btree_writer.specs.Pointers.{FitsOffset, offset_fits, pointer, no_pointer}
use Rattle.rkyv_btree_portable.specs.Rounding.{round_up}
use Rattle.rkyv_btree_portable.specs.laws.Rounding.{le-round_up, round_up-aligned}
use Rattle.rkyv_btree_writing_laws.specs.Serialising.{Spelled}
use Rattle.rkyv_btree_format.specs.Spells.{root_size, Spells, Accepted}
use Rattle.rkyv_btree_shape.specs.Tree.{Tree, leaf, inner}
use Rattle.rkyv_btree_writer.specs.Writing.{Writing, position, last_end, Write, Wrote, AllReach, appended}
use Rattle.rkyv_btree_format.proofs.Widen.{map_widens}
use Rattle.rkyv_btree_writer.proofs.WriteRuns.{appended-append}
use Rattle.rkyv_btree_portable.specs.laws.Holding.{Holds-front, Holds-back}
use Rattle.rkyv_btree_writing_laws.proofs.Leaves.{length-padding}
use Rattle.rkyv_btree_writer.proofs.HeldNumbers.{held_number, held_pointer}

pub reached : (at root : ℕ) → offset_fits at root ≡ true → FitsOffset at root
reached at root h = (grind (arith, nat_tests), grind (arith, nat_tests))

-- a map has eight bytes
pub root_length : (at root n : ℕ) → length (root_bytes at root n) ≡ 8
root_length at root n = go (nat_eq n 0)
  where
    go : (b : Bool) → length ((if b then no_pointer else pointer at root) ++ to_le_bytes w32 n) ≡ 8
    go true = refl
    go false = refl

-- the last write's pointers reach
reaches_last : (ws : List Write) (w : Write) → AllReach (ws ++ w ∷ []) → w.reaches ≡ true
reaches_last [] w h = h.0
reaches_last (x ∷ ws) w h = reaches_last ws w h.1

-- what a map's eight bytes tell of its root node and its length
pub root_held : (b : List ℕ) (root at n : ℕ) → 0 < n → n ≤ last_end → root_reaches at root n ≡ true → at < 2 ^ 32 → root < 2 ^ 32 → Holds b at (root_bytes at root n) → (place_at b at ≡ pos root) × (number_at b (at + 4) 4 ≡ n)
root_held b root at n some few reaches near low own =
    let not_zero : nat_eq n 0 ≡ false = ne_eqb n 0 (omega arith) in
    let bytes : Holds b at (pointer at root ++ to_le_bytes w32 n) = subst (λ (z : Bool). Holds b at ((if z then no_pointer else pointer at root) ++ to_le_bytes w32 n)) not_zero own in
    let fits : FitsOffset at root = reached at root (subst (λ (z : Bool). (z || offset_fits at root) ≡ true) not_zero reaches) in
    (held_pointer b at root fits near low (Holds-front b at (pointer at root) (to_le_bytes w32 n) bytes), held_number b (at + 4) n (omega arith) (Holds-back b at (pointer at root) (to_le_bytes w32 n) bytes))

module _ (K V : Kind) (E : ℕ) where
  pub spelled_inside : (b : List ℕ) (lo hi p : ℕ) (t : Tree (K.Value × V.Value)) → Spells K V E b lo hi p t → (lo ≤ p) × (p ≤ hi) × (lo ≤ hi)
  spelled_inside b lo hi p (leaf m) h = let at = h.0 in (at.start, omega arith, omega arith)
  spelled_inside b lo hi p (inner row) h = let at = h.0 in (at.start, omega arith, omega arith)

  -- the map over a root node at a position after it, in the window of what was written
  pub accepted_within : (b : List ℕ) (from to : Writing) (m : List (K.Value × V.Value)) (root at : ℕ) (spelled : Spelled K V E from m root to) → 0 < length m → length m ≤ last_end → root_reaches at root (length m) ≡ true →
      length b ≤ 4294967295 → Holds b (position from) spelled.appended → position to ≤ at → at % 4 ≡ 0 → at + 8 ≤ length b → Holds b at (root_bytes at root (length m)) → (left : ℕ) × Accepted K V E b (position from) (position to) at left m
  accepted_within b from to m root at spelled some few reaches short held behind aligned room own =
      let tree = spelled.spelled b short held (omega arith) in
      let inside = spelled_inside b (position from) (position to) root spelled.tree tree in
      let told = root_held b root at (length m) some few reaches (omega arith) (omega arith) own in (
        root + root_size (layout_of K V E) spelled.tree,
        record {
          short = short;
          window = inside.2;
          before = behind;
          aligned = aligned;
          room = room;
          root = inr (
            λ e. absurd (omega (arith, told.1, e)),
            record {
              start = root;
              tree = spelled.tree;
              leads = told.0;
              spelled = tree;
              levels = spelled.levels;
              means = sym spelled.entries;
              total = sym told.1;
              left = refl;
            },
          );
        },
      )

  -- and in the window of all that stands before it
  pub accepted_over : IsLawful K → IsLawful V → (b : List ℕ) (from to : Writing) (m : List (K.Value × V.Value)) (root at : ℕ) (spelled : Spelled K V E from m root to) → 0 < length m → length m ≤ last_end → root_reaches at root (length m) ≡ true →
      length b ≤ 4294967295 → Holds b (position from) spelled.appended → position to ≤ at → at % 4 ≡ 0 → at + 8 ≤ length b → Holds b at (root_bytes at root (length m)) → (left : ℕ) × Accepted K V E b 0 at at left m
  accepted_over k v b from to m root at spelled some few reaches short held behind aligned room own =
      let whole = accepted_within b from to m root at spelled some few reaches short held behind aligned room own in
      let wide = map_widens K V E b k.widens v.widens (position from) (position to) at whole.0 0 at m (omega arith) behind (omega arith) whole.1 in
      (wide.0, wide.2)

  -- the map of no entries
  pub accepted_empty : (b : List ℕ) (root at : ℕ) → length b ≤ 4294967295 → at % 4 ≡ 0 → at + 8 ≤ length b → Holds b at (root_bytes at root 0) → Accepted K V E b 0 at at 0 []
  accepted_empty b root at short aligned room own = record {
    short = short;
    window = omega arith;
    before = omega arith;
    aligned = aligned;
    room = room;
    root = inl (held_number b (at + 4) 0 (omega arith) (Holds-back b at no_pointer (to_le_bytes w32 0) own), refl, refl);
  }

-- bytes in the middle of others
pub held_between : (xs ys zs : List ℕ) (at : ℕ) → length xs ≡ at → Holds (xs ++ (ys ++ zs)) at ys
held_between xs ys zs at e = ap (take (length ys)) (drop_at xs (ys ++ zs) at e) ∙ take_at ys zs (length ys) refl

-- the map is the last eight bytes of what a writer holds
archive_end : (mid to : Writing) (root n : ℕ) → Wrote mid (root_image (position mid) root n) to → mid.base + length to.contents ≡ round_up (position mid) 4 + 8
archive_end mid to root n wrote =
    let at = round_up (position mid) 4 in
    let pad = padding 4 (position mid) in
    let own = root_bytes at root n in
    let write : Write = record { bytes = own; reaches = root_reaches at root n } in
    omega (
      arith,
      ap length wrote.done.contents,
      length-append mid.contents (appended (pad ++ write ∷ [])),
      ap length (appended-append pad (write ∷ [])),
      length-append (appended pad) (own ++ []),
      length-append own [],
      root_length at root n,
      length-padding 4 (position mid) (omega arith),
    )

-- those of a writer from position 0 on
pub archive_length : (mid to : Writing) (root n : ℕ) → mid.base ≡ 0 → Wrote mid (root_image (position mid) root n) to → length to.contents ≡ round_up (position mid) 4 + 8
archive_length mid to root n zero wrote = omega (arith, zero, archive_end mid to root n wrote)

-- a buffer that holds the bytes of a writer at their positions, after others, once a map was written after state `mid`
module _ (front : List ℕ) (mid to : Writing) (root n : ℕ) (base : length front ≡ mid.base) (wrote : Wrote mid (root_image (position mid) root n) to) where
  abbrev at : ℕ
  at = round_up (position mid) 4

  abbrev pad : List Write
  pad = padding 4 (position mid)

  abbrev own : List ℕ
  own = root_bytes at root n

  abbrev write : Write
  write = record { bytes = own; reaches = root_reaches at root n }

  split : front ++ to.contents ≡ (front ++ mid.contents) ++ (appended pad ++ (own ++ []))
  split =
      ap (λ z. front ++ z) (wrote.done.contents ∙ ap (λ z. mid.contents ++ z) (appended-append pad (write ∷ [])))
      ∙ sym (append_assoc front mid.contents (appended pad ++ (own ++ [])))

  long : length (front ++ to.contents) ≡ at + 8
  long = omega (arith, base, length-append front to.contents, archive_end mid to root n wrote)

  -- the map
  map_held : position to ≤ last_end → HoldsRoot (front ++ to.contents) at root n
  map_held end =
      let up = le-round_up (position mid) 4 (omega arith) in
      let before = front ++ mid.contents in
      let grouped : front ++ to.contents ≡ (before ++ appended pad) ++ (own ++ []) = split ∙ sym (append_assoc before (appended pad) (own ++ [])) in
      let reach : length (before ++ appended pad) ≡ at = omega (arith, base, length-append front mid.contents, length-append before (appended pad), length-padding 4 (position mid) (omega arith)) in
      record {
        short = omega (arith, base, wrote.done.base, length-append front to.contents);
        aligned = round_up-aligned (position mid) 4;
        room = omega (arith, long);
        held = subst (λ (z : List ℕ). Holds z at own) (sym grouped) (held_between (before ++ appended pad) own [] at reach);
      }

  -- what was appended before it
  tree_held : (from : Writing) (xs : List ℕ) → length front ≡ from.base → mid.contents ≡ from.contents ++ xs → Holds (front ++ to.contents) (position from) xs
  tree_held from xs start is =
      let rest = appended pad ++ (own ++ []) in
      let before = front ++ from.contents in
      let there : front ++ to.contents ≡ before ++ (xs ++ rest) =
      split ∙ (ap (λ z. (front ++ z) ++ rest) is ∙ (ap (λ z. z ++ rest) (sym (append_assoc front from.contents xs)) ∙ append_assoc before xs rest)) in
      subst (λ (z : List ℕ). Holds z (position from) xs) (sym there) (held_between before xs rest (position from) (omega (arith, start, length-append front from.contents)))

  archive_held : (from : Writing) (xs : List ℕ) → length front ≡ from.base → mid.contents ≡ from.contents ++ xs → position to ≤ last_end → HoldsArchive (front ++ to.contents) from mid root at n
  archive_held from xs start is end = record {
    appended = xs;
    contents = is;
    tree = tree_held from xs start is;
    behind = le-round_up (position mid) 4 (omega arith);
    reaches = reaches_last pad write wrote.reach;
    map = map_held end;
  }

-- what was appended is held after as many bytes as the writer's base
pub written_is_held_after : (front : List ℕ) (from mid to : Writing) (root n : ℕ) → length front ≡ from.base → OnlyAppended from mid → Wrote mid (root_image (position mid) root n) to → position to ≤ last_end
    → HoldsArchive (front ++ to.contents) from mid root (round_up (position mid) 4) n
written_is_held_after front from mid to root n start only wrote end =
    archive_held front mid to root n (omega (arith, start, only.1.base)) wrote from only.0 start only.1.contents end

pub written_is_held : WrittenIsHeld
written_is_held from mid to root n zero only wrote end = written_is_held_after [] from mid to root n (sym zero) only wrote end

module _ (K V : Kind) (E : ℕ) (k : IsLawful K) (v : IsLawful V) where
  -- it is accepted where the map was written
  pub accepted_archive : (from mid to : Writing) (m : List (K.Value × V.Value)) (root : ℕ) → from.base ≡ 0 → mid.base ≡ 0 → (0 < length m → Spelled K V E from m root mid) → length m ≤ last_end → Wrote mid (root_image (position mid) root (length m)) to → position to ≤ last_end →
      (left : ℕ) × Accepted K V E to.contents 0 (round_up (position mid) 4) (round_up (position mid) 4) left m
  accepted_archive from mid to [] root start zero spelled few wrote end =
      let own = map_held [] mid to root 0 (sym zero) wrote end in
      (0, accepted_empty K V E to.contents root (round_up (position mid) 4) own.short own.aligned own.room own.held)
  accepted_archive from mid to (x ∷ m) root start zero spelled few wrote end =
      let s = spelled (omega arith) in
      let h = archive_held [] mid to root (length (x ∷ m)) (sym zero) wrote from s.appended (sym start) s.contents end in
      accepted_over K V E k v to.contents from mid (x ∷ m) root (round_up (position mid) 4) s (omega arith) few h.reaches h.map.short (tree_held [] mid to root (length (x ∷ m)) (sym zero) wrote from s.appended (sym start) s.contents) h.behind h.map.aligned h.map.room h.map.held
