-- The map is written after the heading, or the cause is named.
use Rattle.std.proofs.Common.{inl, inr, refl, rules}
use Rattle.btreekv_commands.proofs.Unbuilt.{map_unbuilt}
use Rattle.btreekv_commands.proofs.WrittenFiles.{map_built_of, map_whole}
use Rattle.btreekv_commands.proofs.building.map_file.Goals as goal

pub returns-in-Err-clause-err : goal.returns-in-Err-clause-err
returns-in-Err-clause-err c = (c.args.sorted.now.entries, refl, inl c.in-Err.ensures.err)

pub returns-in-Err-serialize-clause-err : goal.returns-in-Err-serialize-clause-err
returns-in-Err-serialize-clause-err c =
    map_unbuilt (λ m. m.entries) c.args.sorted.now c.write_heading.new.writer c.args.heading c.in-Ok.ensures.ok c.in-Err-serialize.fault
    (inl (c.serialize.new.writer, c.in-Err-serialize.ensures.err))

pub returns-in-Err-write_value-clause-err : goal.returns-in-Err-write_value-clause-err
returns-in-Err-write_value-clause-err c =
    map_unbuilt (λ m. m.entries) c.args.sorted.now c.write_heading.new.writer c.args.heading c.in-Ok.ensures.ok c.in-Err-write_value.fault
    (inr (c.serialize.new.writer, c.in-Ok-serialize.resolver, c.in-Ok-serialize.ensures.ok, c.in-Err-write_value.ensures.err))

pub returns-in-Ok-write_value-clause-ok : goal.returns-in-Ok-write_value-clause-ok
returns-in-Ok-write_value-clause-ok c =
    map_built_of c.archiving_is_lawful.ensures.archived c.args.heading c.write_heading.new.writer c.args.sorted.now.entries c.into_vec.result.items
    c.in-Ok.ensures.ok c.in-Ok.ensures.named
    (map_whole (λ m. m.entries) c.args.sorted.now c.write_heading.new.writer c.into_vec.result.items (record {
      written = c.serialize.new.writer;
      resolver = c.in-Ok-serialize.resolver;
      serialised = c.in-Ok-serialize.ensures.ok;
      at = c.in-Ok-write_value.field-0;
      end = c.write_value.new.writer;
      placed = c.in-Ok-write_value.ensures.ok;
      whole = search rules;
    }))
