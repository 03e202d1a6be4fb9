-- The map has one type.
use Rattle.std.proofs.Common.{None, Ok, subst}
use Rattle.rkyv_btree_format.specs.OwnBytes.{own_at}
use Rattle.rkyv_btree_ffi.specs.Entries.{LooksUp}
use Rattle.rkyv_btree_ffi.specs.Finding.{LookupReturns, IsFoundEntry, IsRefusal}
use Rattle.rkyv_btree_ffi.specs.MapTypes.{kind_of}
use Rattle.rkyv_btree_ffi.proofs.Types.{number_is}
use Rattle.rkyv_btree_ffi.proofs.finding.rkyv_btree_find_number.Goals as goal

pub returns-clause-found : goal.returns-clause-found
returns-clause-found c = λ t is zero_code. subst (λ comparison. IsFoundEntry t c.args.buf.now comparison c.find.new.entry) (number_is t c.args.key) (c.find.ensures.found t is zero_code)

pub returns-clause-absent : goal.returns-clause-absent
returns-clause-absent c = λ t is code. subst (λ comparison. LookupReturns t c.args.buf.now comparison (Ok None)) (number_is t c.args.key) (c.find.ensures.absent t is code)

pub returns-clause-refused : goal.returns-clause-refused
returns-clause-refused c = λ t is some more. subst (λ comparison. IsRefusal t c.args.buf.now comparison c.find.new.refusal c.find.result) (number_is t c.args.key) (c.find.ensures.refused t is some more)

pub returns-clause-as_open : goal.returns-clause-as_open
returns-clause-as_open c = λ t is m archive. subst (λ comparison. LooksUp t c.args.buf.now (own_at (kind_of t) c.args.buf.now) comparison c.find.result c.find.new.entry) (number_is t c.args.key) (c.find.ensures.as_open t is m archive)
