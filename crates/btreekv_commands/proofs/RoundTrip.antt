-- The lines of changes are read as these changes.
use Rattle.std.proofs.Common.{◌≡◌, ◌≢◌, ℕ, zero, suc, false, List, [], ◌∷◌, ◌++◌, refl, sym, ap, subst, ◌∙◌, arith, append_assoc}
use Rattle.std.specs.List.{AllByRecursion}
use Rattle.rkyv_btree_update.specs.declared.change.Change.TheVariants.{Put, Delete}
use Rattle.btreearc_lines.specs.Grammar.{AreEach, lines}
use Rattle.btreekv_commands.specs.Changing.{AreChanges, IsChange, IsReadBack, TextChange, change_line, changes_text}
use Rattle.btreekv_commands.specs.Lines.{Entry, Lacks}
use Rattle.btreekv_commands.specs.Updating.{IsDiff, IsStrictArchive, IsUpdate, changed_entries}
use Rattle.btreekv_commands.proofs.Splitting.{entry_parts, line_fed, no_split}
use Rattle.btreekv_commands.proofs.Updates.{one_list}

lacks_more : (b x : ℕ) (xs : List ℕ) → x ≢ b → Lacks b xs → Lacks b (x ∷ xs)
lacks_more b x xs other lacks zero inside = other
lacks_more b x xs other lacks (suc k) inside = lacks k (omega arith)

lacks_tail : (b x : ℕ) (xs : List ℕ) → Lacks b (x ∷ xs) → Lacks b xs
lacks_tail b x xs h k inside = h (suc k) (omega arith)

lacks_both : (b x : ℕ) (xs ys : List ℕ) → x ≢ b → Lacks b xs → Lacks b ys → Lacks b (xs ++ x ∷ ys)
lacks_both b x [] ys other left right = lacks_more b x ys other right
lacks_both b x (z ∷ xs) ys other left right =
    lacks_more b z (xs ++ x ∷ ys) (left 0 (omega arith)) (lacks_both b x xs ys other (lacks_tail b z xs left) right)

tab_is_no_feed : (x : ℕ) → x ≡ 9 → x ≢ 10
tab_is_no_feed x is same = omega (arith, is, same)

-- a line and those after it
line_first : (line : List ℕ) (c : TextChange) (cs : List TextChange) → change_line c ≡ line ++ 10 ∷ [] → Lacks 10 line
    → lines (changes_text (c ∷ cs)) ≡ line ∷ lines (changes_text cs)
line_first line c cs is lacks =
    ap (λ (z : List ℕ). lines (z ++ changes_text cs)) is
    ∙ (ap lines (append_assoc line (10 ∷ []) (changes_text cs)) ∙ line_fed line (changes_text cs) lacks)

first_read : (line : List ℕ) (c : TextChange) (cs : List TextChange) → change_line c ≡ line ++ 10 ∷ [] → Lacks 10 line → IsChange line c
    → AreChanges (changes_text cs) cs → AreChanges (changes_text (c ∷ cs)) (c ∷ cs)
first_read line c cs is lacks change rest =
    subst (λ (ls : List (List ℕ)). AreEach IsChange ls (c ∷ cs)) (sym (line_first line c cs is lacks)) (change, rest)

pub all_read : (cs : List TextChange) → AllByRecursion IsReadBack cs → AreChanges (changes_text cs) cs
all_read [] h = tt
all_read ((k, Put v) ∷ cs) h =
    first_read (k ++ 9 ∷ v) (k, Put v) cs (sym (append_assoc k (9 ∷ v) (10 ∷ [])))
    (lacks_both 10 9 k v (tab_is_no_feed 9 refl) h.0.0.1 h.0.1)
    (record { spelled = refl; tab = h.0.0.0; key = h.0.0.2; value = h.0.2 })
    (all_read cs h.1)
all_read ((k, Delete) ∷ cs) h = first_read k (k, Delete) cs refl h.0.1 (refl, h.0.0, h.0.2) (all_read cs h.1)

-- a line is one change alone
one_change : (line : List ℕ) (c d : TextChange) → IsChange line c → IsChange line d → c ≡ d
one_change line (k, Put v) (l, Put w) h i =
    let parts = entry_parts line k v h.spelled h.tab (l, w) i in
    ap (λ (z : List ℕ). (z, Put v)) parts.0 ∙ ap (λ (z : List ℕ). (l, Put z)) parts.1
one_change line (k, Put v) (l, Delete) h i = absurd (no_split 9 l k v i.1 (sym i.0 ∙ h.spelled))
one_change line (k, Delete) (l, Put w) h i = absurd (no_split 9 k l w h.1 (sym h.0 ∙ i.spelled))
one_change line (k, Delete) (l, Delete) h i = ap (λ (z : List ℕ). (z, Delete)) (sym h.0 ∙ i.0)

one_reading : (ls : List (List ℕ)) (cs ds : List TextChange) → AreEach IsChange ls cs → AreEach IsChange ls ds → cs ≡ ds
one_reading [] [] [] h i = refl
one_reading [] [] (d ∷ ds) h i = absurd i
one_reading [] (c ∷ cs) ds h i = absurd h
one_reading (l ∷ ls) [] ds h i = absurd h
one_reading (l ∷ ls) (c ∷ cs) [] h i = absurd i
one_reading (l ∷ ls) (c ∷ cs) (d ∷ ds) h i =
    ap (λ (z : TextChange). z ∷ cs) (one_change l c d h.0 i.0) ∙ ap (λ (zs : List TextChange). d ∷ zs) (one_reading ls cs ds h.1 i.1)

-- an update by the lines of a difference has the list of the new archive
pub updated_by_lines : (old new text updated : List ℕ) (d : IsDiff old new text) → AllByRecursion IsReadBack d.changes
    → IsUpdate false old text updated → IsStrictArchive updated d.others
updated_by_lines old new text updated d back u =
    let read : AreChanges text d.changes = subst (λ (z : List ℕ). AreChanges z d.changes) (sym d.lines) (all_read d.changes back) in
    let changes : u.changes ≡ d.changes = one_reading (lines text) u.changes d.changes u.are read in
    let entries : u.entries ≡ d.entries = one_list old u.entries d.entries u.old d.old_is in
    let list : changed_entries u.entries u.changes ≡ d.others =
    ap (λ (es : List Entry). changed_entries es u.changes) entries
    ∙ (ap (λ (cs : List TextChange). changed_entries d.entries cs) changes ∙ d.leads.leads) in
    subst (λ (es : List Entry). IsStrictArchive updated es) list u.new.1
