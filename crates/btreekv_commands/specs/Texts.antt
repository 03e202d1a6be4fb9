-- Texts of the program by their bytes.
use Rattle.std.specs.Prelude.{String, string_bytes}
use Rattle.btreekv_commands.specs.Lines.{Entry}

abbrev pub texts_of : {Z : Type 0} → String Z × String Z → Entry
texts_of e = (string_bytes e.0, string_bytes e.1)
