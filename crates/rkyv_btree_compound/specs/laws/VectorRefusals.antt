-- A vector has one refusal at most, and none where it means something.
use Rattle.std.specs.Prelude.{◌≡◌, ℕ, List}
use Rattle.std.specs.Int.RustNames.{unsigned_abs}
use Rattle.std.proofs.Common.{refl, sym, ap, subst, ◌∙◌, arith}
use Rattle.rkyv_btree_portable.specs.declared.refusal.Refusal.{Refusal}
use Rattle.rkyv_btree_portable.specs.declared.refusal.Refusal.TheVariants.{BadEntry}
use Rattle.rkyv_btree_portable.specs.Kind.{Kind, IsLawful}
use Rattle.rkyv_btree_portable.specs.Refusing.{AreRefusals, MeansNothing}
use Rattle.rkyv_btree_portable.specs.Text.{text_len}
use Rattle.rkyv_btree_portable.specs.laws.Refusing.{misplaced_once, not_misplaced, place_of}
use Rattle.rkyv_btree_compound.specs.Elements.{FirstBad}
use Rattle.rkyv_btree_compound.specs.Vectors.{MeansVector, HasRoom, RefusesVector, misplaced_vector, no_elements, bad_element, vector_kind}
use Rattle.rkyv_btree_compound.specs.laws.ElementLaws as rows

module _ (T : Kind) (t : IsLawful T) where
  -- the elements of a vector have room
  has_room : (b : List ℕ) (lo hi at left : ℕ) (vs : List T.Value) → (m : MeansVector T b lo hi at left vs) → HasRoom T b lo hi at m.start
  has_room b lo hi at left vs m = record { leads = m.leads; from = m.from; room = omega (arith, m.ends, m.lies.kept) }

  -- they begin at one place
  one_start : (b : List ℕ) (lo hi at start other : ℕ) → HasRoom T b lo hi at start → HasRoom T b lo hi at other → start ≡ other
  one_start b lo hi at start other p q = ap unsigned_abs (sym p.leads ∙ q.leads)

  no_vector : (b : List ℕ) (lo hi at : ℕ) (e : Refusal) → RefusesVector T b lo hi at e → MeansNothing (vector_kind T) b lo hi at
  no_vector b lo hi at e (misplaced_vector p) left vs m = not_misplaced b 8 4 at (place_of b 8 4 at m.lies) p
  no_vector b lo hi at e (no_elements has none) left vs m = none m.start (has_room b lo hi at left vs m)
  no_vector b lo hi at e (bad_element {start} {place} has room bad) left vs m =
      let same = one_start b lo hi at start m.start room (has_room b lo hi at left vs m) in
      rows.no_elements T t b (text_len b at) lo m.start m.start place m.after vs m.count (subst (λ s. FirstBad T b (text_len b at) lo s s place) same bad) m.elements

  one_refusal : (b : List ℕ) (lo hi at : ℕ) {e d : Refusal} → RefusesVector T b lo hi at e → RefusesVector T b lo hi at d → e ≡ d
  one_refusal b lo hi at (misplaced_vector p) (misplaced_vector q) = misplaced_once b 8 4 at p q
  one_refusal b lo hi at (misplaced_vector p) (no_elements has none) = absurd (not_misplaced b 8 4 at has p)
  one_refusal b lo hi at (misplaced_vector p) (bad_element has room bad) = absurd (not_misplaced b 8 4 at has p)
  one_refusal b lo hi at (no_elements has none) (misplaced_vector q) = absurd (not_misplaced b 8 4 at has q)
  one_refusal b lo hi at (no_elements has none) (no_elements has2 none2) = refl
  one_refusal b lo hi at (no_elements has none) (bad_element {start} has2 room bad) = absurd (none start room)
  one_refusal b lo hi at (bad_element has room bad) (misplaced_vector q) = absurd (not_misplaced b 8 4 at has q)
  one_refusal b lo hi at (bad_element {start} has room bad) (no_elements has2 none) = absurd (none start room)
  one_refusal b lo hi at (bad_element {start} {place} has room bad) (bad_element {start = start2} {place = place2} has2 room2 bad2) =
      let same = one_start b lo hi at start2 start room2 room in
      ap BadEntry (rows.first_bad_once T t b (text_len b at) lo start start place place2 bad (subst (λ s. FirstBad T b (text_len b at) lo s s place2) same bad2))

  pub vector_refusals : AreRefusals (vector_kind T) (RefusesVector T)
  vector_refusals = record { no_meaning = no_vector; one_refusal = λ b lo hi at e d. one_refusal b lo hi at }
