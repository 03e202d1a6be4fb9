-- Fields one after another.
use Rattle.std.specs.Prelude.{ℕ, ◌+◌, ◌≤◌, ◌⊎◌, List, [], ◌∷◌, ◌++◌}
use Rattle.std.proofs.Common.{inl, inr, arith}
use Rattle.rkyv_btree_writer.specs.Fields.{Field, a_length, a_pointer, AllFit, FirstUnfit, HasLong, lengths_of, AllInside, AllHeld}
use Rattle.rkyv_btree_writer.specs.declared.fault.ResolveFault.{ResolveFault}
use Rattle.rkyv_btree_writer.specs.declared.fault.ResolveFault.TheVariants.{LengthOverflow}

pub fit_both : (fs gs : List Field) → AllFit fs → AllFit gs → AllFit (fs ++ gs)
fit_both [] gs a b = b
fit_both (f ∷ fs) gs a b = (a.0, fit_both fs gs a.1 b)

pub fit_parts : (fs gs : List Field) → AllFit (fs ++ gs) → AllFit fs × AllFit gs
fit_parts [] gs h = (tt, h)
fit_parts (f ∷ fs) gs h = let more = fit_parts fs gs h.1 in ((h.0, more.0), more.1)

pub unfit_front : (fs gs : List Field) (fault : ResolveFault) → FirstUnfit fs fault → FirstUnfit (fs ++ gs) fault
unfit_front [] gs fault h = absurd h
unfit_front (f ∷ fs) gs fault (inl h) = inl h
unfit_front (f ∷ fs) gs fault (inr h) = inr (h.0, unfit_front fs gs fault h.1)

pub unfit_behind : (fs gs : List Field) (fault : ResolveFault) → AllFit fs → FirstUnfit gs fault → FirstUnfit (fs ++ gs) fault
unfit_behind [] gs fault a h = h
unfit_behind (f ∷ fs) gs fault a h = inr (a.0, unfit_behind fs gs fault a.1 h)

pub long_front : (ms ns : List ℕ) → HasLong ms → HasLong (ms ++ ns)
long_front [] ns h = absurd h
long_front (m ∷ ms) ns (inl h) = inl h
long_front (m ∷ ms) ns (inr h) = inr (long_front ms ns h)

pub long_behind : (ms ns : List ℕ) → HasLong ns → HasLong (ms ++ ns)
long_behind [] ns h = h
long_behind (m ∷ ms) ns h = inr (long_behind ms ns h)

pub long_parts : (ms ns : List ℕ) → HasLong (ms ++ ns) → HasLong ms ⊎ HasLong ns
long_parts [] ns h = inr h
long_parts (m ∷ ms) ns (inl h) = inl (inl h)
long_parts (m ∷ ms) ns (inr h) = long_rest m ms ns (long_parts ms ns h)
  where
    long_rest : (m : ℕ) (ms ns : List ℕ) → HasLong ms ⊎ HasLong ns → HasLong (m ∷ ms) ⊎ HasLong ns
    long_rest m ms ns (inl h) = inl (inr h)
    long_rest m ms ns (inr h) = inr h

-- a first field that doesn't fit by its length is a length past 32 bits
pub unfit_long : (fs : List Field) → FirstUnfit fs LengthOverflow → HasLong (lengths_of fs)
unfit_long [] h = absurd h
unfit_long (a_length place len ∷ fs) (inl h) = inl h
unfit_long (a_length place len ∷ fs) (inr h) = inr (unfit_long fs h.1)
unfit_long (a_pointer place target ∷ fs) (inl h) = absurd h
unfit_long (a_pointer place target ∷ fs) (inr h) = unfit_long fs h.1

pub lengths_both : (fs gs : List Field) → HasLong (lengths_of (fs ++ gs)) → HasLong (lengths_of fs) ⊎ HasLong (lengths_of gs)
lengths_both [] gs h = inr h
lengths_both (a_length place len ∷ fs) gs (inl h) = inl (inl h)
lengths_both (a_length place len ∷ fs) gs (inr h) = more len fs gs (lengths_both fs gs h)
  where
    more : (len : ℕ) (fs gs : List Field) → HasLong (lengths_of fs) ⊎ HasLong (lengths_of gs) → HasLong (len ∷ lengths_of fs) ⊎ HasLong (lengths_of gs)
    more len fs gs (inl h) = inl (inr h)
    more len fs gs (inr h) = inr h
lengths_both (a_pointer place target ∷ fs) gs h = lengths_both fs gs h

-- fields among some bytes are among more
pub inside_more : (at size from len : ℕ) (fs : List Field) → from ≤ at → at + size ≤ from + len → AllInside at size fs → AllInside from len fs
inside_more at size from len [] low high h = tt
inside_more at size from len (f ∷ fs) low high h = (omega (arith, h.0), omega (arith, h.1), inside_more at size from len fs low high h.2)

pub inside_both : (at size : ℕ) (fs gs : List Field) → AllInside at size fs → AllInside at size gs → AllInside at size (fs ++ gs)
inside_both at size [] gs a b = b
inside_both at size (f ∷ fs) gs a b = (a.0, a.1, inside_both at size fs gs a.2 b)

pub held_both : (b : List ℕ) (fs gs : List Field) → AllHeld b fs → AllHeld b gs → AllHeld b (fs ++ gs)
held_both b [] gs a c = c
held_both b (f ∷ fs) gs a c = (a.0, held_both b fs gs a.1 c)
