-- What a list begins with, its entries, and its end.
use Rattle.std.proofs.Common.{◌≡◌, ◌∙◌, rules}
use Rattle.btreekv_types.specs.Listing.{list_start}
use Rattle.btreekv_types.proofs.ListWritten.{list_written}
use Rattle.btreekv_types.proofs.listing.stream_list.Goals as goal

pub returns-clause-ok : goal.returns-clause-ok
returns-clause-ok g c =
    let streams = c.in_ok-stream.ensures.ok in
    let start : c.deref.result.now ≡ list_start c.args.form = search rules in (
      streams.0,
      streams.1,
      list_written c.args.form _ _ _ _ _ _ _ start c.in_ok-write_all.ensures.all streams.2 c.end.ensures c.in_ok-write_all-2.ensures.all,
    )
