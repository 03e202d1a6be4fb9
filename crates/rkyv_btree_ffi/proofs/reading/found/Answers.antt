-- What is found is where the search ends.
use Rattle.std.proofs.Common.{rules, ap, sym, ◌∙◌}
use Rattle.rkyv_btree_ffi.proofs.Shown.{found_some, found_none}
use Rattle.rkyv_btree_ffi.proofs.reading.found.Goals as goal

pub returns-in-None : goal.returns-in-None
returns-in-None g c = λ compared same.
    let ends = c.search-found.ensures.found compared (λ q w r post. search rules) in
    found_none _ _ _ _ _ _ (sym (ap (λ r. r.0) ends) ∙ c.in-None.is)

pub returns-in-Some : goal.returns-in-Some
returns-in-Some g c = λ compared same.
    let ends = c.search-found.ensures.found compared (λ q w r post. search rules) in
    found_some _ _ _ _ _ _ c.in-Some.place c.entry_of.result (sym (ap (λ r. r.0) ends) ∙ c.in-Some.is) (record { key = c.entry_of.ensures.key; value = c.entry_of.ensures.value })
