-- Each type of keys has its own header.
use Rattle.btreekv_types.specs.declared.plain_type.PlainType.TheVariants.{U8, U16, U32, U64, I32, I64, Text, Bytes}
use Rattle.btreekv_types.proofs.Pairs.{with_key}
use Rattle.btreekv_types.proofs.sourced.heading_at.Goals as goal

pub returns-in-U8 : goal.returns-in-U8
returns-in-U8 c = rw (with_key c.args.types U8 c.in-U8.is) (record { ok = c.heading_with.ensures.ok; err = c.heading_with.ensures.err })

pub returns-in-U16 : goal.returns-in-U16
returns-in-U16 c = rw (with_key c.args.types U16 c.in-U16.is) (record { ok = c.heading_with-in-U16.ensures.ok; err = c.heading_with-in-U16.ensures.err })

pub returns-in-U32 : goal.returns-in-U32
returns-in-U32 c = rw (with_key c.args.types U32 c.in-U32.is) (record { ok = c.heading_with-in-U32.ensures.ok; err = c.heading_with-in-U32.ensures.err })

pub returns-in-U64 : goal.returns-in-U64
returns-in-U64 c = rw (with_key c.args.types U64 c.in-U64.is) (record { ok = c.heading_with-in-U64.ensures.ok; err = c.heading_with-in-U64.ensures.err })

pub returns-in-I32 : goal.returns-in-I32
returns-in-I32 c = rw (with_key c.args.types I32 c.in-I32.is) (record { ok = c.heading_with-in-I32.ensures.ok; err = c.heading_with-in-I32.ensures.err })

pub returns-in-I64 : goal.returns-in-I64
returns-in-I64 c = rw (with_key c.args.types I64 c.in-I64.is) (record { ok = c.heading_with-in-I64.ensures.ok; err = c.heading_with-in-I64.ensures.err })

pub returns-in-Text : goal.returns-in-Text
returns-in-Text c = rw (with_key c.args.types Text c.in-Text.is) (record { ok = c.heading_with-in-Text.ensures.ok; err = c.heading_with-in-Text.ensures.err })

pub returns-in-Bytes : goal.returns-in-Bytes
returns-in-Bytes c = rw (with_key c.args.types Bytes c.in-Bytes.is) (record { ok = c.heading_with-in-Bytes.ensures.ok; err = c.heading_with-in-Bytes.ensures.err })
