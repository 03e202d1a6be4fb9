-- Writes one after another.
use Rattle.std.proofs.Common.{◌≡◌, ℕ, ◌+◌, ◌-◌, ◌%◌, ◌<◌, ◌≤◌, replicate, take, Bool, true, false, if◌then◌else◌, nat_eq, List, [], ◌∷◌, ◌++◌, length, refl, ap, sym, subst, ◌∙◌, arith}
use Rattle.std.proofs.lemmas.List.{append_assoc, append-nil, length-append, take-replicate}
use Rattle.std.proofs.lemmas.Bool.Decides.{nat_tests}
use Rattle.rkyv_btree_writer.specs.declared.fault.Fault.{Fault}
use Rattle.rkyv_btree_writer.specs.declared.fault.Fault.TheVariants.{PositionOverflow, OffsetOverflow}
use Rattle.rkyv_btree_portable.specs.Bytes.{zeros}
use Rattle.rkyv_btree_writer.specs.Padding.{zeros_write, padding}
use Rattle.rkyv_btree_portable.specs.Rounding.{round_up}
use Rattle.rkyv_btree_writer.specs.Writing.{Writing, Appended, position, Write, appended, AllReach, Wrote, Refused, Stopped, last_end}
use Rattle.rkyv_btree_portable.proofs.Rounds.{round_up-past, round_up-multiple}

pub appended-append : (xs ys : List Write) → appended (xs ++ ys) ≡ appended xs ++ appended ys
appended-append [] ys = refl
appended-append (x ∷ xs) ys = ap (λ z. x.bytes ++ z) (appended-append xs ys) ∙ sym (append_assoc x.bytes (appended xs) (appended ys))

pub AllReach-both : (xs ys : List Write) → AllReach xs → AllReach ys → AllReach (xs ++ ys)
AllReach-both [] ys g h = h
AllReach-both (x ∷ xs) ys g h = (g.0, AllReach-both xs ys g.1 h)

-- what all of two lists' writes reach
pub reach_split : (xs ys : List Write) → AllReach (xs ++ ys) → AllReach xs × AllReach ys
reach_split [] ys h = (tt, h)
reach_split (x ∷ xs) ys h = let more = reach_split xs ys h.1 in ((h.0, more.0), more.1)

pub appended-position : (s : Writing) (bytes : List ℕ) (t : Writing) → Appended s bytes t → position t ≡ position s + length bytes
appended-position s bytes t a = omega (arith, a.base, ap length a.contents, length-append s.contents bytes)

pub wrote-none : (s : Writing) → Wrote s [] s
wrote-none s = record { done = record { base = refl; contents = sym (append-nil s.contents); failures = refl }; reach = tt }

pub wrote-both : (s : Writing) (xs : List Write) (m : Writing) (ys : List Write) (t : Writing) → Wrote s xs m → Wrote m ys t → Wrote s (xs ++ ys) t
wrote-both s xs m ys t a b = record {
  done = record {
    base = b.done.base ∙ a.done.base;
    contents = b.done.contents ∙ (ap (λ z. z ++ appended ys) a.done.contents ∙ (append_assoc s.contents (appended xs) (appended ys) ∙ ap (λ z. s.contents ++ z) (sym (appended-append xs ys))));
    failures = b.done.failures ∙ a.done.failures;
  };
  reach = AllReach-both xs ys a.reach b.reach;
}

pub wrote-one : (s : Writing) (next : Write) (t : Writing) → next.reaches ≡ true → Appended s next.bytes t → Wrote s (next ∷ []) t
wrote-one s next t reach a = record {
  done = record { base = a.base; contents = a.contents ∙ ap (λ z. s.contents ++ z) (sym (append-nil next.bytes)); failures = a.failures };
  reach = (reach, tt);
}

pub stopped-one : {E : Type 0} (s : Writing) (next : Write) (fault : Fault E) (t : Writing) → Refused fault s next t → Stopped s (next ∷ []) fault t
stopped-one s next fault t r = record { made = []; next = next; rest = []; mid = s; parts = refl; wrote = wrote-none s; refused = r }

pub stopped-front : {E : Type 0} (s : Writing) (xs ys : List Write) (fault : Fault E) (t : Writing) → Stopped s xs fault t → Stopped s (xs ++ ys) fault t
stopped-front s xs ys fault t h = record {
  made = h.made;
  next = h.next;
  rest = h.rest ++ ys;
  mid = h.mid;
  parts = ap (λ z. z ++ ys) h.parts ∙ append_assoc h.made (h.next ∷ h.rest) ys;
  wrote = h.wrote;
  refused = h.refused;
}

pub stopped-behind : {E : Type 0} (s : Writing) (xs : List Write) (m : Writing) (ys : List Write) (fault : Fault E) (t : Writing) → Wrote s xs m → Stopped m ys fault t → Stopped s (xs ++ ys) fault t
stopped-behind s xs m ys fault t a h = record {
  made = xs ++ h.made;
  next = h.next;
  rest = h.rest;
  mid = h.mid;
  parts = ap (λ z. xs ++ z) h.parts ∙ sym (append_assoc xs h.made (h.next ∷ h.rest));
  wrote = wrote-both s xs m h.made h.mid a h.wrote;
  refused = h.refused;
}

-- a refused position lies after what the writes append, and a refused offset is in one of them
pub stopped_past : {E : Type 0} (s : Writing) (writes : List Write) (t : Writing) → Stopped {E = E} s writes PositionOverflow t → last_end < position s + length (appended writes)
stopped_past s writes t h =
    let split = ap appended h.parts ∙ appended-append h.made (h.next ∷ h.rest) in
    omega (
      arith,
      h.refused.1,
      appended-position s (appended h.made) h.mid h.wrote.done,
      ap length split,
      length-append (appended h.made) (h.next.bytes ++ appended h.rest),
      length-append h.next.bytes (appended h.rest),
    )

reach_next : (made : List Write) (next : Write) (rest : List Write) → AllReach (made ++ next ∷ rest) → next.reaches ≡ true
reach_next [] next rest h = h.0
reach_next (x ∷ made) next rest h = reach_next made next rest h.1

pub stopped_stray : {E : Type 0} (s : Writing) (writes : List Write) (t : Writing) → Stopped {E = E} s writes OffsetOverflow t → AllReach writes → ⊥
stopped_stray s writes t h all = absurd (cc (h.refused.1, reach_next h.made h.next h.rest (subst AllReach h.parts all)))

-- where no padding is needed, and where it is
padding-none : (align w : ℕ) → round_up w align ≡ w → padding align w ≡ []
padding-none align w e = go (nat_eq (round_up w align) w) refl
  where
    go : (b : Bool) → nat_eq (round_up w align) w ≡ b → (if b then [] else zeros_write (round_up w align - w) ∷ []) ≡ []
    go true h = refl
    go false h = absurd (grind (arith, nat_tests))

padding-some : (align w : ℕ) → w < round_up w align → padding align w ≡ zeros_write (round_up w align - w) ∷ []
padding-some align w l = go (nat_eq (round_up w align) w) refl
  where
    go : (b : Bool) → nat_eq (round_up w align) w ≡ b → (if b then [] else zeros_write (round_up w align - w) ∷ []) ≡ zeros_write (round_up w align - w) ∷ []
    go true h = absurd (grind (arith, nat_tests))
    go false h = refl

-- as many of fifteen zeros as are missing to the next multiple
module _ (s : Writing) (align w : ℕ) (at : w ≡ position s) (positive : 0 < align) (small : align ≤ 16) (past : 0 < w % align) where
  missing : take (align - w % align) (replicate 15 0) ≡ zeros (round_up w align - w)
  missing = take-replicate {X = ℕ} (align - w % align) 15 0 (omega arith) ∙ ap zeros (omega (arith, round_up-past w align positive past))

  padded : padding align (position s) ≡ zeros_write (round_up w align - w) ∷ []
  padded = ap (padding align) (sym at) ∙ padding-some align w (omega (arith, round_up-past w align positive past))

  pub padding-wrote : (t : Writing) → Appended s (take (align - w % align) (replicate 15 0)) t → Wrote s (padding align (position s)) t
  padding-wrote t a = subst (λ ws. Wrote s ws t) (sym padded) (wrote-one s (zeros_write (round_up w align - w)) t refl (subst (λ bs. Appended s bs t) missing a))

  pub padding-stopped : {E : Type 0} (t : Writing) (fault : Fault E) → Refused fault s (record { bytes = take (align - w % align) (replicate 15 0); reaches = true }) t → Stopped s (padding align (position s)) fault t
  padding-stopped t fault r = subst (λ ws. Stopped s ws fault t) (sym padded) (stopped-one s (zeros_write (round_up w align - w)) fault t (subst (λ bs. Refused fault s (record { bytes = bs; reaches = true }) t) missing r))

pub unpadded : (s : Writing) (align w : ℕ) → w ≡ position s → 0 < align → w % align ≡ 0 → Wrote s (padding align (position s)) s
unpadded s align w at positive whole = subst (λ ws. Wrote s ws s) (sym (ap (padding align) (sym at) ∙ padding-none align w (round_up-multiple w align positive whole))) (wrote-none s)
