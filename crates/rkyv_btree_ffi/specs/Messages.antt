-- The texts of codes.
use Rattle.std.specs.Prelude.{ℕ, List, nat_eq, if◌then◌else◌, codes}

abbrev pub message_of : ℕ → List ℕ
message_of code =
    if nat_eq code 0 then codes "no error" else
    if nat_eq code 1 then codes "what should be stored lies outside of the buffer" else
    if nat_eq code 2 then codes "what should be stored isn't aligned" else
    if nat_eq code 3 then codes "the byte is the kind of no node" else
    if nat_eq code 4 then codes "a leaf has more entries than a node" else
    if nat_eq code 5 then codes "a key or a value is bad" else
    if nat_eq code 6 then codes "a node is deeper than 32 levels" else
    if nat_eq code 7 then codes "the map has another number of entries than it says" else
    if nat_eq code 8 then codes "the buffer is longer than 4294967295 bytes" else
    if nat_eq code 9 then codes "a key isn't greater than the key before it" else
    if nat_eq code 16 then codes "the map isn't open" else
    if nat_eq code 17 then codes "no type of maps has this number" else
    if nat_eq code 18 then codes "no such key" else
    if nat_eq code 19 then codes "the cursor is no place in the map" else
    if nat_eq code 20 then codes "the values of the map aren't such numbers" else
    if nat_eq code 21 then codes "the lookup needs bytes that no piece has" else
    if nat_eq code 32 then codes "more than 4294967295 entries" else
    if nat_eq code 33 then codes "the archive would be longer than 4294967295 bytes" else
    if nat_eq code 34 then codes "a pointer would reach over more than 2 GiB" else
    if nat_eq code 35 then codes "out of memory" else
    if nat_eq code 36 then codes "an item is no key or value of the type" else
    if nat_eq code 37 then codes "the keys don't increase" else
    if nat_eq code 38 then codes "the archive is longer than the room for it" else
    if nat_eq code 48 then codes "there is no type header" else
    if nat_eq code 49 then codes "the type header has another version" else
    if nat_eq code 50 then codes "the bytes are of another type" else
    codes "no such code"
