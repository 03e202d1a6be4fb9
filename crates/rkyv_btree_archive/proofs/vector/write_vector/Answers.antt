-- The elements and their row are the vector's writes, and what stops them is why it isn't serialised.
use Rattle.std.proofs.Common.{List, Result, Ok, Err, IfOk, IfErr, OnErr}
use Rattle.rkyv_btree_archive.proofs.VectorRows.{row_unserialised}
use Rattle.rkyv_btree_archive.proofs.VectorsWritten.{vector_serialised}
use Rattle.rkyv_btree_archive.specs.VectorArchival.{vector_archival}
use Rattle.rkyv_btree_writing_laws.proofs.Kept.{unserialised_begins}
use Rattle.rkyv_btree_archive.proofs.vector.write_vector.Goals as goal

-- what follows of a value, and of an error
of_ok : {A B : Type 0} {P Q : A → Type 0} → ((x : A) → P x → Q x) → (r : Result A B) → IfOk r P → IfOk r Q
of_ok f (Ok x) h = f x h
of_ok f (Err e) h = h

of_err : {A B : Type 0} {P Q : B → Type 0} → ((e : B) → P e → Q e) → (r : Result A B) → IfErr r P → IfErr r Q
of_err f (Ok x) h = h
of_err f (Err e) h = f e h

on_err : {A B Q : Type 0} {P : B → Type 0} → ((e : B) → P e → Q) → (r : Result A B) → IfErr r P → OnErr r Q
on_err f (Ok x) h = h
on_err f (Err e) h = f e h

pub returns-clause-ok : goal.returns-clause-ok
returns-clause-ok g c =
    of_ok (λ start row. vector_serialised g.T.Archive.archival (λ (ys : List g.row.T.Denot). ys) c.args.elements.now (g.W.Writer.state c.args.writer.now) (g.W.Writer.state c.serialize_elements.new.writer) (g.W.Writer.state c.write_row.new.writer) c.serialize_elements.new.resolvers.items start c.in_ok-serialize_elements.ensures.ok row)
    c.write_row.result c.write_row.ensures.ok

pub returns-clause-err : goal.returns-clause-err
returns-clause-err g c =
    of_err (λ fault row. row_unserialised g.T.Archive.archival g.met.T.Archive.lawful g.met.T.Archive.archived g.met.T.Archive.causes (λ (ys : List g.row.T.Denot). ys) c.args.elements.now (g.W.Writer.state c.args.writer.now) (g.W.Writer.state c.serialize_elements.new.writer) (g.W.Writer.state c.write_row.new.writer) c.serialize_elements.new.resolvers.items c.in_ok-serialize_elements.ensures.ok fault row)
    c.write_row.result c.write_row.ensures.err

pub returns-clause-kept : goal.returns-clause-kept
returns-clause-kept g c =
    let T = g.T.Archive.archival in
    let s = g.W.Writer.state c.args.writer.now in
    let t = g.W.Writer.state c.write_row.new.writer in
    on_err (λ fault row. unserialised_begins (vector_archival T (λ (ys : List g.row.T.Denot). ys)) c.args.elements.now s fault t (row_unserialised T g.met.T.Archive.lawful g.met.T.Archive.archived g.met.T.Archive.causes (λ (ys : List g.row.T.Denot). ys) c.args.elements.now s (g.W.Writer.state c.serialize_elements.new.writer) t c.serialize_elements.new.resolvers.items c.in_ok-serialize_elements.ensures.ok fault row))
    c.write_row.result c.write_row.ensures.err
