-- A vector as an archived type: an offset to its elements, which lie in a row before its own bytes, and their number.
use Rattle.std.specs.Prelude.{◌≡◌, ℕ, ◌+◌, ◌*◌, ◌≤◌, ◌&&◌, List, length, Option, Some, None, ℤ, pos, negsuc, nat_lt, if◌then◌else◌}
use Rattle.std.specs.Cmp.Lexicographic.{pointwise, slice_cmp}
use Rattle.std.specs.Hash as fed
use Rattle.std.specs.Int.RustNames.{unsigned_abs}
use Rattle.rkyv_btree_compound.specs.Elements.{Elements, FirstBad, elements_leaves, elements_read, if_left}
use Rattle.rkyv_btree_portable.specs.declared.refusal.Refusal.{Refusal}
use Rattle.rkyv_btree_portable.specs.declared.refusal.Refusal.TheVariants.{BadEntry}
use Rattle.rkyv_btree_portable.specs.Bytes.{place_at}
use Rattle.rkyv_btree_portable.specs.Kind.{Kind}
use Rattle.rkyv_btree_portable.specs.Refusing.{HasPlace, Misplaced}
use Rattle.rkyv_btree_portable.specs.Standing.{Lies, if_placed}
use Rattle.rkyv_btree_portable.specs.Text.{text_len}

module _ (T : Kind) where
  -- the elements' own bytes lie in the window from where the offset leads, and the window goes on after them. What else the
  -- elements take lies in the window before their own bytes
  pub record MeansVector (buf : List ℕ) (lo hi at left : ℕ) (vs : List T.Value) : Type 0 where
    pub lies : Lies buf 8 4 lo hi at left
    pub start : ℕ
    pub after : ℕ
    pub leads : place_at buf at ≡ pos start
    pub count : length vs ≡ text_len buf at
    pub from : lo ≤ start
    pub elements : Elements T buf lo start start after vs
    pub ends : left ≡ start + text_len buf at * T.size

  -- where the window goes on after so many elements from a place on, if they lie in it and mean values
  abbrev pub behind_elements : List ℕ → ℕ → ℕ → ℕ → ℤ → Option ℕ
  behind_elements buf count lo hi (negsuc n) = None
  behind_elements buf count lo hi (pos start) =
      if nat_lt start lo then None else
      if nat_lt hi (start + count * T.size) then None else
      if_left (elements_leaves T buf count lo start start) (λ _. Some (start + count * T.size))

  abbrev pub vector_leaves : List ℕ → ℕ → ℕ → ℕ → Option ℕ
  vector_leaves buf lo hi at = if_placed buf 8 4 at (behind_elements buf (text_len buf at) lo hi (place_at buf at))

  abbrev pub vector_read : List ℕ → ℕ → List T.Value
  vector_read buf at = elements_read T buf (text_len buf at) (unsigned_abs (place_at buf at))

  -- the own bytes of so many elements from a place on lie in the window
  pub record HasRoom (buf : List ℕ) (lo hi at start : ℕ) : Type 0 where
    pub leads : place_at buf at ≡ pos start
    pub from : lo ≤ start
    pub room : start + text_len buf at * T.size ≤ hi

  -- the refusal of a vector that is asked by itself: a case counts only where none before it does
  pub data RefusesVector (buf : List ℕ) (lo hi at : ℕ) : Refusal → Type 0 where
    misplaced_vector : {e : Refusal} → Misplaced buf 8 4 at e → RefusesVector buf lo hi at e
    no_elements : HasPlace buf 8 4 at → ((start : ℕ) → ¬ HasRoom buf lo hi at start) → RefusesVector buf lo hi at (BadEntry at)
    bad_element : {start place : ℕ} → HasPlace buf 8 4 at → HasRoom buf lo hi at start
        → FirstBad T buf (text_len buf at) lo start start place → RefusesVector buf lo hi at (BadEntry place)

  -- elements have bytes, so that a vector has at most as many as its window has bytes. They are compared and hashed as a slice's
  abbrev pub vector_kind : Kind
  vector_kind = record {
    Value = List T.Value;
    size = 8;
    align = 4;
    is_fitting = T.is_fitting && nat_lt 0 T.size;
    Means = MeansVector;
    leaves = vector_leaves;
    read = vector_read;
    same = pointwise T.same;
    order = slice_cmp T.order;
    hash_input = fed.slice T.hash_input;
  }
