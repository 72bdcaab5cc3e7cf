-- What a file looks like that is no log, by its first bytes.
use Prim.Native.Char.{code}
use Rattle.std.specs.Prelude.{ℕ, ◌-◌, ◌==◌, ◌&&◌, ◌||◌, not, nat_le, nat_lt, Bool, List, [], ◌∷◌}
use Rattle.std.specs.Prelude.{codes, length, slice_index, Option, Some, None, map, if◌then◌else◌}
use Rattle.std.specs.List.{find, flat_map, list_any, starts_with}
use Rattle.trace_report.specs.declared.looks.Look.{Look}
use Rattle.trace_report.specs.declared.looks.Look.TheVariants as look
use Rattle.trace_report.specs.declared.looks.TheConstants.{TOLD}

-- the bytes begin with these
abbrev pub has_front : List ℕ → List ℕ → Bool
has_front bytes front = starts_with (λ one other. one == other) bytes front

-- this byte stands at this place, from 0 on
abbrev pub has_at : List ℕ → ℕ → ℕ → Bool
has_at bytes place byte = nat_lt place (length bytes) && (slice_index bytes place == byte)

-- What is known of the files that look so: the first bytes that tell one, each of these alone, what is said of it
-- behind its name, and what unpacks or reads it, or what else makes a log of it.
pub record LookRowValue : Type 0 where
  pub first : List (List ℕ)
  pub words : List ℕ
  pub command : List ℕ

-- a row of the table of looks, with these first bytes, what is said, and what makes a log of it
abbrev pub known_by : List (List ℕ) → List ℕ → List ℕ → LookRowValue
known_by first words command = record { first = first; words = words; command = command }

-- what is said of a file that another tool has written: what reads it
abbrev pub reads : List ℕ
reads = codes "python3 -m udsnorm reads it"

-- The table of looks. Compressed files are told by RFC 1952, RFC 8878, the page of the format xz, bzip2's manual and
-- the note on zip; texts by a byte order mark, in UTF-8 or in UTF-16 of either order; candump's form for the screen by
-- two spaces before the interface, or one before a stamp; Vector ASC by its date or by what its numbers are; ASAM MDF
-- 4, ended or not; PCAN TRC by a remark; captures of libpcap in micro- or nanoseconds, of either order, and those of
-- the form pcapng, which begins with a line feed; a profile by one of its keys, or by a remark of TOML. The last three
-- looks it takes more to tell.
abbrev pub look_row : Look → LookRowValue
look_row look.Gzip = known_by ((0x1F ∷ 0x8B ∷ []) ∷ []) (codes "looks compressed with gzip") (codes "zcat unpacks it")
look_row look.Zstandard = known_by ((0x28 ∷ 0xB5 ∷ 0x2F ∷ 0xFD ∷ []) ∷ []) (codes "looks compressed with zstd") (codes "zstdcat unpacks it")
look_row look.Xz = known_by ((0xFD ∷ 0x37 ∷ 0x7A ∷ 0x58 ∷ 0x5A ∷ 0x00 ∷ []) ∷ []) (codes "looks compressed with xz") (codes "xzcat unpacks it")
look_row look.Bzip2 = known_by (codes "BZh" ∷ []) (codes "looks compressed with bzip2") (codes "bzcat unpacks it")
look_row look.Zip = known_by ((0x50 ∷ 0x4B ∷ 0x03 ∷ 0x04 ∷ []) ∷ []) (codes "looks like a zip archive") (codes "unzip -p unpacks it")
look_row look.ByteOrderMark =
    known_by ((0xEF ∷ 0xBB ∷ 0xBF ∷ []) ∷ []) (codes "begins with a byte order mark, which an editor has put in front") (codes "save it without")
look_row look.Utf16 =
    known_by ((0xFF ∷ 0xFE ∷ []) ∷ (0xFE ∷ 0xFF ∷ []) ∷ []) (codes "looks like a text in UTF-16") (codes "iconv -f UTF-16 -t ASCII makes a log of one")
look_row look.Screen =
    known_by (codes "  " ∷ codes " (" ∷ []) (codes "looks like candump's form for the screen")
    (codes "python3 -m udsnorm reads it, and candump -l records a log")
look_row look.Asc = known_by (codes "date " ∷ codes "base " ∷ []) (codes "looks like a Vector ASC file") reads
look_row look.Blf = known_by (codes "LOGG" ∷ []) (codes "looks like a Vector BLF file") reads
look_row look.Mf4 = known_by (codes "MDF     4" ∷ codes "UnFinMF 4" ∷ []) (codes "looks like an MF4 file") reads
look_row look.Trc = known_by (codes ";" ∷ []) (codes "looks like a PCAN TRC file") reads
look_row look.Pcap =
    known_by ((0xA1 ∷ 0xB2 ∷ 0xC3 ∷ 0xD4 ∷ []) ∷ (0xD4 ∷ 0xC3 ∷ 0xB2 ∷ 0xA1 ∷ []) ∷ (0xA1 ∷ 0xB2 ∷ 0x3C ∷ 0x4D ∷ []) ∷ (0x4D ∷ 0x3C ∷ 0xB2 ∷ 0xA1 ∷ []) ∷ [])
    (codes "looks like a pcap capture") reads
look_row look.Pcapng = known_by ((0x0A ∷ 0x0D ∷ 0x0D ∷ 0x0A ∷ []) ∷ []) (codes "looks like a pcapng capture") reads
look_row look.Profile =
    known_by (codes "drop" ∷ codes "mask" ∷ codes "[[unit" ∷ codes "# " ∷ []) (codes "looks like a profile") (codes "--profile takes it")
look_row look.Date = known_by [] (codes "looks like a log whose stamps have a date") reads
look_row look.Csv = known_by [] (codes "looks like a CSV file") (codes "python3 -m udsnorm reads those of SavvyCAN and python-can")
look_row look.Nanoseconds =
    known_by [] (codes "looks like a log whose stamps have more than six decimals") (codes "python3 -m udsnorm rounds them")

-- a sign: first bytes, and the look that they tell
abbrev pub Sign : Type 0
Sign = List ℕ × Look

-- the signs of a look: each of the first bytes in its row
abbrev pub signs_of : Look → List Sign
signs_of look = map (λ first. (first, look)) (look_row look).first

-- the signs of all looks that first bytes tell
abbrev pub signs : List Sign
signs = flat_map signs_of TOLD

-- the first bytes tell this look
abbrev pub is_told : List ℕ → Look → Bool
is_told bytes look = list_any (has_front bytes) (look_row look).first

-- the first of two looks that is one
abbrev pub or_else : Option Look → Option Look → Option Look
or_else (Some look) other = Some look
or_else None other = other

-- the look that first bytes tell, if they tell one
abbrev pub look_told : List ℕ → Option Look
look_told first = find (is_told first) TOLD

-- the bytes begin with a stamp that has a date: a year of four digits, and a hyphen
abbrev pub is_dated : List ℕ → Bool
is_dated first = has_at first 0 (code "(") && has_at first 5 (code "-")

-- the bytes are values with commas or semicolons between them, and no stamp stands in front
abbrev pub is_table : List ℕ → Bool
is_table first = not (has_at first 0 (code "(")) && (list_any (λ b. b == code ",") first || list_any (λ b. b == code ";") first)

-- what the first bytes of a text look like that is refused in this line: they tell of its first line alone
abbrev pub text_look : List ℕ → ℕ → Option Look
text_look first line =
    if not (line == 1) then None
    else if is_dated first then Some look.Date
    else if is_table first then Some look.Csv
    else None

-- A stamp of more than six decimals, in the line that these bytes begin and that is refused in this column: its dot
-- stands seven places before the refused byte, where its bracket was due. There is a digit of its seconds at least.
abbrev pub has_more_decimals : List ℕ → ℕ → Bool
has_more_decimals first column = nat_le 10 column && has_at first (column - 8) (code ".")

-- A line that begins with no stamp where one is due: behind legal lines, or as the first where candump -d tells in it
-- of lost frames.
abbrev pub lacks_stamp : List ℕ → ℕ → ℕ → Bool
lacks_stamp first line column = (column == 1) && (nat_lt 1 line || has_front first (codes "DROPCOUNT"))

-- What a log looks like that is refused at this place, by its first bytes.
abbrev pub look_of : List ℕ → ℕ → ℕ → Option Look
look_of first line column =
    if (line == 1) && has_more_decimals first column then Some look.Nanoseconds
    else or_else (look_told first) (text_look first line)
