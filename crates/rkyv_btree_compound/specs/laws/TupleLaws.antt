-- What tuples owe as archived types, and what their first fields owe, by what their fields owe.
use Rattle.std.specs.Prelude.{ℕ, ◌+◌, ◌≤◌, ◌^◌, IsTrue, List, is_some}
use Rattle.std.proofs.Common.{arith, refl}
use Rattle.std.proofs.lemmas.Bool.{lt-ltb}
use Rattle.rkyv_btree_compound.specs.Joined.{joined_end, joined_kind, IsLaidOut}
use Rattle.rkyv_btree_compound.specs.Tuples.{front_kind, tuple_align, tuple_size, tuple_kind}
use Rattle.rkyv_btree_compound.specs.laws.JoinedLaws.{lawful_of, fitting_joined, key_before, joined_laid_out, laid_out_of}
use Rattle.rkyv_btree_portable.specs.Entry.{value_offset, entry_align}
use Rattle.rkyv_btree_portable.specs.Kind.{Kind, IsLawful}
use Rattle.rkyv_btree_portable.specs.Refusing.{HasPlace}
use Rattle.rkyv_btree_portable.specs.Views.{stands}
use Rattle.rkyv_btree_portable.specs.laws.Choices.{both, some_of}
use Rattle.rkyv_btree_portable.specs.laws.Rounding.{max_alignment, alignment_positive, le-round_up, round_up-aligned, aligned_left}
use Rattle.rkyv_btree_portable.specs.laws.Views.{stands_of}

module _ (P L : Kind) (p : IsLaidOut P) (l : IsLaidOut L) where
  pub front_laid_out : IsLaidOut (front_kind P L)
  front_laid_out = joined_laid_out P L p l (joined_end P L) (omega arith)

  pub front_before : P.size ≤ value_offset P L
  front_before = key_before P L p l

  pub last_inside : joined_end P L ≤ tuple_size P L
  last_inside = le-round_up (joined_end P L) (tuple_align P L) (alignment_positive (max_alignment p.alignment l.alignment))

  pub tuple_laws : IsLawful (tuple_kind P L)
  tuple_laws = lawful_of (joined_laid_out P L p l (tuple_size P L) last_inside) (round_up-aligned (joined_end P L) (tuple_align P L))

  module _ (size : ℕ) (room : joined_end P L ≤ size) where
    -- where two values fit so many bytes, they fit without the padding after them
    pub fields_fit : IsTrue (joined_kind P L size).is_fitting → IsTrue (front_kind P L).is_fitting
    fields_fit fits =
        let f = fitting_joined P L size fits in
        rw (f.key, f.value, lt-ltb (joined_end P L) (2 ^ 32) (omega (arith, f.small, room))) refl

    -- where two values have their place, the first has it
    pub front_place : (buf : List ℕ) (at : ℕ) → HasPlace buf size (entry_align P L) at → HasPlace buf P.size P.align at
    front_place buf at has =
        let before = front_before in
        record { short = has.short; room = omega (arith, has.room, before, room); aligned = aligned_left at p.alignment l.alignment has.aligned }

  -- where a tuple has its place, its fields have theirs
  pub fields_place : (buf : List ℕ) (at : ℕ) → HasPlace buf (tuple_size P L) (tuple_align P L) at → HasPlace buf (joined_end P L) (tuple_align P L) at
  fields_place buf at has =
      let inside = last_inside in
      record { short = has.short; room = omega (arith, has.room, inside); aligned = has.aligned }

-- what means something in a window is decided to stand
laid_stands : (kind : Kind) → IsLaidOut kind → IsTrue kind.is_fitting → (buf : List ℕ) (lo hi at left : ℕ) (v : kind.Value) → kind.Means buf lo hi at left v → IsTrue (stands kind buf at)
laid_stands kind laid fits buf lo hi at left v m =
    let lies = laid.lies buf lo hi at left v m in
    let wide = laid.widens buf lo hi at left 0 at v (omega arith) (omega arith) (omega arith) m in
    rw (fits, (laid.decides fits).only buf 0 at at wide.0 v wide.2) refl

-- where two values stand, each stands at its place, and both fit
pub record BothStand (P L : Kind) (size : ℕ) (buf : List ℕ) (at : ℕ) : Type 0 where
  pub fits : IsTrue (front_kind P L).is_fitting
  pub reach : at + size ≤ 4294967295
  pub front : IsTrue (stands P buf at)
  pub last : IsTrue (stands L buf (at + value_offset P L))

pub both_stand : (P L : Kind) → IsLaidOut P → IsLawful L → (size : ℕ) → joined_end P L ≤ size → (buf : List ℕ) (at : ℕ) → IsTrue (stands (joined_kind P L size) buf at) → BothStand P L size buf at
both_stand P L p l size room buf at h =
    let laid = joined_laid_out P L p (laid_out_of l) size room in
    let told = both (joined_kind P L size).is_fitting (is_some ((joined_kind P L size).leaves buf 0 at at)) h in
    let left = some_of ((joined_kind P L size).leaves buf 0 at at) told.1 in
    let m = (laid.decides told.0).found buf 0 at at left.0 (omega arith) (omega arith) left.1 in
    let f = fitting_joined P L size told.0 in
    record {
      fits = fields_fit P L p (laid_out_of l) size room told.0;
      reach = omega (arith, m.1.lies.inside, m.1.lies.short);
      front = laid_stands P p f.key buf _ _ _ _ _ m.1.parts.key;
      last = stands_of l f.value buf _ _ _ _ _ m.1.parts.value;
    }
