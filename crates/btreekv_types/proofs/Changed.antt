-- Texts that are appended, entry by entry and file by file.
use Rattle.std.proofs.Common.{◌≡◌, ◌∙◌, ◌+◌, ◌<◌, ◌≤◌, ◌++◌, ◌∷◌, ℕ, [], List, ap, append_assoc, arith, drop, get_or, length, length-take, map, sym, take}
use Rattle.std.proofs.lemmas.List.{flat_map_more, get_or-map, length-map, map_push, take-append-drop, take_all, take_more}
use Rattle.std.specs.Prelude.{Vec, flat_map}
use Rattle.std.specs.declared.alloc.Global.{Global}
use Rattle.rkyv_btree_portable.specs.Kind.{Kind}
use Rattle.rkyv_btree_writer.specs.Archiving.{Archival}
use Rattle.btreearc_lines.specs.Grammar.{AreEach}
use Rattle.btreearc_lines.specs.Headings.{IsHeaded}
use Rattle.btreearc_lines.specs.declared.heading.Heading.{Heading}
use Rattle.btreekv_commands.specs.Lines.{Entry}
use Rattle.btreekv_types.specs.Commands.{FailsToMerge, HasTexts, IsUnbuiltOf, IsUnreadAmong}
use Rattle.btreekv_types.specs.Typed.{Items}
use Rattle.btreekv_types.specs.declared.command.Order.TheVariants.{Any}
use Rattle.btreekv_types.specs.declared.fault.TypedFault.{TypedFault}
use Rattle.btreekv_types.specs.declared.fault.TypedFault.TheVariants.{Program, Archive, BadKey, BadValue, NoKey, NoLow, NoHigh}

-- the texts of one entry more
pub shown_more : {X : Type 0} (shows : X → Entry) (old before new : List Entry) (items : List X) (x : X) → before ≡ old ++ map shows items → new ≡ before ++ shows x ∷ [] → new ≡ old ++ map shows (items ++ x ∷ [])
shown_more shows old before new items x was is =
    is ∙ (ap (λ (es : List Entry). es ++ shows x ∷ []) was
    ∙ (append_assoc old (map shows items) (shows x ∷ []) ∙ ap (λ (es : List Entry). old ++ es) (sym (map_push shows items x))))

-- what holds of each file, and of one more
pub each_more : {X : Type 0} (Is : List ℕ → X → Type 0) (files : List (List ℕ)) (xs : List X) (file : List ℕ) (x : X) → AreEach Is files xs → Is file x → AreEach Is (files ++ file ∷ []) (xs ++ x ∷ [])
each_more Is [] [] file x h is = (is, tt)
each_more Is [] (y ∷ ys) file x h is = absurd h
each_more Is (f ∷ fs) [] file x h is = absurd h
each_more Is (f ∷ fs) (y ∷ ys) file x h is = (h.0, each_more Is fs ys file x h.1 is)

-- the texts of one file more
pub lists_more : (old before texts new : List Entry) (lists : List (List Entry)) → before ≡ old ++ flat_map (λ l. l) lists → new ≡ before ++ texts → new ≡ old ++ flat_map (λ l. l) (lists ++ texts ∷ [])
lists_more old before texts new lists was is =
    is ∙ (ap (λ (es : List Entry). es ++ texts) was ∙ flat_map_more (λ (l : List Entry). l) old lists texts)

-- all files of a list
pub all_files : (xs : List (Vec ℕ Global)) (i : ℕ) → length xs ≤ i → take i (map (λ (file : Vec ℕ Global). file.items) xs) ≡ map (λ (file : Vec ℕ Global). file.items) xs
all_files xs i past = take_all i (map (λ (file : Vec ℕ Global). file.items) xs) (omega (arith, past, length-map xs (λ (file : Vec ℕ Global). file.items)))

-- the files of a list up to one, and this one more
module _ (xs : List (Vec ℕ Global)) (i : ℕ) (d : Vec ℕ Global) (inside : i < length xs) where
  abbrev files : List (List ℕ)
  files = map (λ (file : Vec ℕ Global). file.items) xs

  within : i < length files
  within = omega (arith, inside, length-map xs (λ (file : Vec ℕ Global). file.items))

  pub one_file : take (i + 1) files ≡ take i files ++ (get_or xs i d).items ∷ []
  one_file =
      take_more files i [] within
      ∙ ap (λ (file : List ℕ). take i files ++ file ∷ []) (get_or-map (λ (file : Vec ℕ Global). file.items) xs i d [] inside)

  pub split_at : files ≡ take i files ++ (get_or xs i d).items ∷ drop (i + 1) files
  split_at =
      sym (take-append-drop (i + 1) files)
      ∙ (ap (λ (fs : List (List ℕ)). fs ++ drop (i + 1) files) one_file ∙ append_assoc (take i files) ((get_or xs i d).items ∷ []) (drop (i + 1) files))

  pub number_of : i ≡ length (take i files)
  number_of = omega (arith, within, length-take i files)

module _ (K V : Kind) (name : List ℕ) (keys : Items K.Value) (values : Items V.Value) (input : List ℕ) (others : List (List ℕ)) where
  -- another file isn't read
  pub other_unread : (texts : List Entry) → HasTexts K V name keys values input texts → {X R Y S : Type 0} (KA : Archival X R) (VA : Archival Y S) (fault : TypedFault) → IsUnreadAmong K V name keys values others fault
      → FailsToMerge K V name keys values KA VA input others fault
  other_unread texts has KA VA (Archive n f) u = record {
    front = input ∷ u.2.front;
    file = u.2.file;
    back = u.2.back;
    parts = ap (λ (fs : List (List ℕ)). input ∷ fs) u.2.parts;
    number = omega (arith, u.1, u.2.number);
    lists = texts ∷ u.2.lists;
    before = (has, u.2.before);
    unread = u.2.unread;
  }
  other_unread texts has KA VA (Program p) u = absurd u
  other_unread texts has KA VA (BadKey n) u = absurd u
  other_unread texts has KA VA (BadValue n) u = absurd u
  other_unread texts has KA VA NoKey u = absurd u
  other_unread texts has KA VA NoLow u = absurd u
  other_unread texts has KA VA NoHigh u = absurd u

  -- the entries of all have no file
  pub unbuilt_merge : {X R Y S : Type 0} (KA : Archival X R) (VA : Archival Y S) (heading : Heading) (lists : List (List Entry)) → IsHeaded name input heading → AreEach (HasTexts K V name keys values) (input ∷ others) lists
      → (fault : TypedFault) → IsUnbuiltOf K V name keys values KA VA Any heading (flat_map (λ texts. texts) lists) fault → FailsToMerge K V name keys values KA VA input others fault
  unbuilt_merge KA VA heading lists headed each (Archive n f) h = absurd h
  unbuilt_merge KA VA heading lists headed each (Program p) h = (heading, lists, headed, each, h)
  unbuilt_merge KA VA heading lists headed each (BadKey n) h = (heading, lists, headed, each, h)
  unbuilt_merge KA VA heading lists headed each (BadValue n) h = (heading, lists, headed, each, h)
  unbuilt_merge KA VA heading lists headed each NoKey h = (heading, lists, headed, each, h)
  unbuilt_merge KA VA heading lists headed each NoLow h = (heading, lists, headed, each, h)
  unbuilt_merge KA VA heading lists headed each NoHigh h = (heading, lists, headed, each, h)
