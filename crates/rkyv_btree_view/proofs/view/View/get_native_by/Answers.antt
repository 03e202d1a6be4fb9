-- There is a native value where there is a value.
use Rattle.std.proofs.Common.{refl, ap, ◌∙◌, Some}
use Rattle.rkyv_btree_view.proofs.NativeFound.{native_looked_up}
use Rattle.rkyv_btree_view.proofs.view.View.get_native_by.Goals as goal

pub returns-in-None : goal.returns-in-None
returns-in-None g c native reads compared p =
    native_looked_up g.K.Portable.kind g.V.Portable.kind g.M.ArchivedMap.E c.args.self (compared c.args.key) native _ _ (rw c.in-None.is at c.get_by.ensures compared p) refl

pub returns-in-Some : goal.returns-in-Some
returns-in-Some g c native reads compared p =
    native_looked_up g.K.Portable.kind g.V.Portable.kind g.M.ArchivedMap.E c.args.self (compared c.args.key) native _ _ (rw c.in-Some.is at c.get_by.ensures compared p) (ap Some (c.to_native.ensures ∙ reads _ _))
