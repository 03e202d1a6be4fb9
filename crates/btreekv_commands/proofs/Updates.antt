-- Archives that are written after changes, and why they aren't.
use Rattle.std.proofs.Common.{◌≡◌, ℕ, ◌+◌, ◌-◌, ◌<◌, Bool, true, false, inr, List, [], ◌∷◌, ◌++◌, length, map, Result, Ok, Err, IfOk, IfErr, OnOk, refl}
use Rattle.std.proofs.Common.{sym, ap, subst, ◌∙◌, arith}
use Rattle.std.proofs.lemmas.List.{length-map, length-append, map-append}
use Rattle.std.proofs.lemmas.Map.Lookups.{exact_bytes}
use Rattle.std.specs.Borrow.{Bor}
use Rattle.std.specs.Cmp.Lexicographic.{slice_cmp, nat_list_cmp_total}
use Rattle.std.specs.Ordering.{nat_cmp}
use Rattle.std.specs.declared.alloc.AllocError.{AllocError}
use Rattle.std.specs.declared.cmp.Ordering.{Ordering}
use Rattle.rkyv_btree_writer.specs.Archiving.{itself}
use Rattle.rkyv_btree_writer.specs.declared.fault.Fault.{Fault}
use Rattle.rkyv_btree_writer.specs.declared.fault.Fault.TheVariants as building
use Rattle.rkyv_btree_format.specs.Increasing.{Increasing, IsOutOfOrder}
use Rattle.rkyv_btree_format.specs.Spells.{Accepted}
use Rattle.rkyv_btree_portable.specs.Text.{text_kind}
use Rattle.rkyv_btree_writing_laws.specs.Kept.{OnlyAppended}
use Rattle.rkyv_btree_writer.specs.Writing.{Writing, position}
use Rattle.rkyv_btree_portable.specs.laws.TextLaws.{text_laws}
use Rattle.rkyv_btree_verify.proofs.MapLaws.{map_laws}
use Rattle.rkyv_btree_convert.proofs.LastWins.{counts_last}
use Rattle.rkyv_btree_convert.proofs.StdMaps.{ascending_meant}
use Rattle.rkyv_btree_strict.proofs.Ordered.{not_both}
use Rattle.rkyv_btree_update.specs.Natives.{IsLent}
use Rattle.rkyv_btree_update.specs.Updated.{change_meant}
use Rattle.rkyv_btree_update.specs.Written.{FailsToUpdate, FailsToWrite, IsAppended, WritesStrict}
use Rattle.rkyv_btree_update.specs.declared.change.Change.{Change}
use Rattle.btreekv_commands.specs.Changing.{AreChanges, ChangesIncrease, TextChange, counted, lent_change}
use Rattle.btreekv_commands.specs.Lines.{Entry}
use Rattle.btreekv_commands.specs.Updating.{FailsChanges, FailsUpdate, IsFirstRefused, IsStrictArchive, IsStrictFile, IsUnwrittenFault, IsUpdate, RefusesStrictFile, change_fault}
use Rattle.btreekv_commands.specs.Updating.{changed_entries, text_lent}
use Rattle.btreekv_commands.specs.declared.update_fault.UpdateFault.{UpdateFault}
use Rattle.btreekv_commands.specs.declared.update_fault.UpdateFault.TheVariants.{Line, OutOfOrder, Archive, NotBuilt, Memory}
use Rattle.btreekv_commands.specs.Files.{IsBegun}
use Rattle.btreekv_commands.specs.Opening.{texts_name}
use Rattle.btreekv_commands.specs.declared.opening.ArchiveFault.{ArchiveFault}
use Rattle.btreearc_lines.specs.Headings.{IsHeaded, IsNamed, begun}
use Rattle.btreearc_lines.specs.declared.heading.Heading.{Heading}
use Rattle.btreearc_lines.specs.declared.heading.Heading.TheVariants.{Typed, Untyped}

abbrev pub Lent : Type 0
Lent = Bor (List ℕ)

abbrev pub LentChange : Type 0
LentChange = Lent × Change Lent

abbrev pub lent_cmp : Lent → Lent → Ordering
lent_cmp x y = slice_cmp nat_cmp x.now y.now

abbrev meant : LentChange → TextChange
meant = lent_change

-- texts are read and ordered by their bytes
abbrev pub bytes_lent : IsLent text_lent text_kind (λ text. text.now) (slice_cmp nat_cmp) text_kind.read lent_cmp
bytes_lent = record {
  same = itself text_kind;
  meant = λ v. v;
  of_value = λ v. v;
  means = λ x. refl;
  reads = λ b at. refl;
  back = λ v. refl;
  compared = λ x y. refl;
  alike = λ x y. refl;
  total = nat_list_cmp_total;
  exact = exact_bytes;
}

-- a strict map at the end of what a writer holds from position 0 on
pub strict_archive : (from to : Writing) (at : ℕ) (list : List Entry) → from.base ≡ 0 → to.base ≡ from.base
    → WritesStrict text_kind text_kind 5 list from at to → position to ≡ at + 8 → IsStrictArchive to.contents list
strict_archive from to at list none base strict end =
    let zero : to.base ≡ 0 = base ∙ none in
    let is = strict [] (sym none) in
    let place : at ≡ length to.contents - 8 = omega (arith, end, zero) in (
      record {
        room = omega (arith, end, zero);
        left = is.map.0;
        means = subst
            (λ (p : ℕ). Accepted text_kind text_kind 5 to.contents 0 p p is.map.0 list) place is.map.1;
      },
      is.increasing,
    )

-- what a writer holds that held a heading begins with it
still_begun : (heading : Heading) (from to : Writing) → from ≡ begun texts_name heading → IsNamed texts_name heading → OnlyAppended from to
    → IsBegun heading to.contents
still_begun Typed from to start named went = record {
  text = named.0;
  fits = named.1;
  rest = went.0;
  parts = went.1.contents ∙ ap (λ (w : Writing). w.contents ++ went.0) start;
}
still_begun Untyped from to start named went = tt

-- and is a file, with a strict map at its end
pub strict_file : (heading : Heading) (from to : Writing) (at : ℕ) (list : List Entry) → from ≡ begun texts_name heading → IsNamed texts_name heading
    → IsAppended from at to → WritesStrict text_kind text_kind 5 list from at to → IsStrictFile heading to.contents list
strict_file heading from to at list start named a strict =
    (still_begun heading from to start named a.went, strict_archive from to at list (ap (λ (w : Writing). w.base) start) a.went.1.base strict a.end)

pub one_list : (bytes : List ℕ) (m n : List Entry) → IsStrictArchive bytes m → IsStrictArchive bytes n → m ≡ n
one_list bytes m n is also = ((map_laws text_kind text_kind 5 text_laws text_laws).one_meaning bytes 0 _ _ is.0.left also.0.left m n is.0.means also.0.means).1

-- what the keys of changes mean is in the same order

pub increase : (cs : List LentChange) → Increasing lent_cmp cs → ChangesIncrease (map meant cs)
increase cs = ascending_meant lent_cmp (slice_cmp nat_cmp) (λ key. key.now) (change_meant (λ value. value.now)) (λ x y. refl) cs

pub out_of_order : (cs : List LentChange) (index : ℕ) → IsOutOfOrder lent_cmp cs index → IsOutOfOrder (slice_cmp nat_cmp) (map meant cs) index
out_of_order cs index o = record {
  front = map meant o.front;
  before = meant o.before;
  entry = meant o.entry;
  back = map meant o.back;
  parts = ap (map meant) o.parts ∙ map-append meant o.front (o.before ∷ o.entry ∷ o.back);
  number = omega (arith, o.number, length-map {B = TextChange} o.front meant);
  first = subst (λ (xs : List TextChange). ChangesIncrease xs) (map-append meant o.front (o.before ∷ [])) (increase (o.front ++ o.before ∷ []) o.first);
  not_greater = o.not_greater;
}

-- an entry that is out of order is one of the list
pub index_inside : (cs : List LentChange) (index : ℕ) → IsOutOfOrder lent_cmp cs index → index < length cs
index_inside cs index o = omega (arith, o.number, ap length o.parts, length-append o.front (o.before ∷ o.entry ∷ o.back))

-- why there is none

module _ (heading : Heading) (entries : List Entry) (cs : List LentChange) (to : Writing) where
  abbrev list : List Entry
  list = changed_entries entries (map meant cs)

  abbrev Fails : Writing → Fault AllocError → Type 0
  Fails from fault = FailsToUpdate text_kind text_kind 5 text_lent text_lent (λ text. text.now) (λ text. text.now) lent_cmp cs list from fault to

  fails : (fault : Fault AllocError) → Fails (begun texts_name heading) fault → FailsChanges heading entries (map meant cs) (change_fault fault)
  fails (building.OutOfOrder index) h = (index, refl, out_of_order cs index h.0)
  fails (building.Length m) h = inr (to, h)
  fails building.LengthOverflow h = inr (to, h)
  fails building.PositionOverflow h = inr (to, h)
  fails building.OffsetOverflow h = inr (to, h)
  fails (building.Writer error) h = inr (to, h)
  fails (building.Memory error) h = inr (to, h)
  fails (building.Entry fault) h = inr (to, h)

  pub fails_changes : (from : Writing) (fault : Fault AllocError) → from ≡ begun texts_name heading → Fails from fault → FailsChanges heading entries (map meant cs) (change_fault fault)
  fails_changes from fault start h = fails fault (subst (λ (w : Writing). Fails w fault) start h)

  pub index_fits : (from : Writing) (fault : Fault AllocError) → Fails from fault → (index : ℕ) → fault ≡ building.OutOfOrder index → index < length cs
  index_fits from fault h index is = index_inside cs index (subst (λ (f : Fault AllocError). Fails from f) is h).0

-- the archive of a list isn't written
pub unwritten : (heading : Heading) (list : List Entry) (from to : Writing) (fault : Fault AllocError) → from ≡ begun texts_name heading
    → FailsToWrite text_kind text_kind 5 text_lent text_lent (λ text. text.now) (λ text. text.now) list from fault to
    → IsUnwrittenFault heading list (NotBuilt fault)
unwritten heading list from to fault start h = inr (
  to,
  subst (λ (w : Writing). FailsToWrite text_kind text_kind 5 text_lent text_lent (λ text. text.now) (λ text. text.now) list w fault to) start
      h,
)

pub first_refused : (archive : List ℕ) (after : List (List ℕ)) (refusal : ArchiveFault) → RefusesStrictFile archive refusal
    → IsFirstRefused (archive ∷ after) 0 refusal
first_refused archive after refusal h =
    record { before = []; refused = archive; after = after; lists = []; parts = refl; good = tt; refuses = h; number = refl }

-- an update by changes that were read
module _ {T : Type 0} (items : T → List ℕ) (is_sorted : Bool) (archive input : List ℕ) (heading : Heading) (entries : List Entry) (read shown : List TextChange)
    (headed : IsHeaded texts_name archive heading) (old : IsStrictArchive archive entries) (are : AreChanges input read) (count : shown ≡ counted is_sorted read) where
  in_order : (sorts : Bool) → shown ≡ counted sorts read → ChangesIncrease shown → sorts ≡ false → ChangesIncrease read
  in_order sorts same h is = subst (λ (cs : List TextChange). ChangesIncrease cs) (same ∙ ap (λ b. counted b read) is) h

  pub updated_so : (result : Result T UpdateFault) → IfOk result (λ b. IsStrictFile heading (items b) (changed_entries entries shown))
      → OnOk result (ChangesIncrease shown) → IfOk result (λ b. IsUpdate is_sorted archive input (items b))
  updated_so (Err fault) new order = tt
  updated_so (Ok b) new order = record {
    entries = entries;
    changes = read;
    heading = heading;
    headed = headed;
    old = old;
    are = are;
    in_order = in_order is_sorted count order;
    new = subst (λ (cs : List TextChange). IsStrictFile heading (items b) (changed_entries entries cs)) count new;
  }

  disordered : (sorts : Bool) (n : ℕ) → is_sorted ≡ sorts → shown ≡ counted sorts read → FailsChanges heading entries shown (OutOfOrder n)
      → FailsUpdate is_sorted archive input (OutOfOrder n)
  disordered false n is same h = (is, (read, are, subst (λ (cs : List TextChange). FailsChanges heading entries cs (OutOfOrder n)) same h))
  disordered true n is same h =
      absurd (not_both nat_list_cmp_total shown h.0 (subst (λ (cs : List TextChange). ChangesIncrease cs) (sym same)
      (counts_last nat_list_cmp_total read).ascending) h.2)

  fails_by : (fault : UpdateFault) → FailsChanges heading entries shown fault → FailsUpdate is_sorted archive input fault
  fails_by (Line n) h = absurd h
  fails_by (OutOfOrder n) h = disordered is_sorted n refl count h
  fails_by (Archive which refusal) h = absurd h
  fails_by (NotBuilt fault) h = (entries, read, heading, headed, old, are, subst (λ (cs : List TextChange). FailsChanges heading entries cs (NotBuilt fault)) count h)
  fails_by Memory h = absurd h

  pub fails_so : (result : Result T UpdateFault) → IfErr result (FailsChanges heading entries shown) → IfErr result (FailsUpdate is_sorted archive input)
  fails_so (Ok b) h = tt
  fails_so (Err fault) h = fails_by fault h
