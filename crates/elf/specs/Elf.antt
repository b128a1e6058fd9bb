-- What an ELF64 little-endian Itanium file says of its code: in its header, in a section header, in a program header. Assumes nothing.
use Rattle.std.specs.Prelude.{ℕ, ◌+◌, ◌*◌, ◌≤◌, ◌<◌, Bool, cond, not, ◌&&◌, List, [], ◌∷◌, eqb, ltb, leb, length, take, drop, Option, Some, None, Result, Ok, Err}
use Rattle.answer.specs.Answer.{Reason, accepted, first, outcome}
use Rattle.bits.specs.Part.{bit}
use Rattle.bundle.specs.Bytes.{number}
use Rattle.table.specs.Ascii.{ascii}
use Rattle.window.specs.declared.Extent.{Extent}
use Rattle.elf.specs.declared.Fields.{Fields}
use Rattle.elf.specs.declared.Refusal.{Refusal}
use Rattle.elf.specs.declared.Refusal.TheVariants.{NotClass64, NotLittleEndian, NotItanium, Relocatable}
use Rattle.elf.specs.declared.Table.{Table}
use Rattle.elf.specs.declared.Tables.{Tables}

-- the number in so many bytes from an offset on
unfoldable pub field : List ℕ → ℕ → ℕ → ℕ
field bytes at width = number (take width (drop at bytes))

-- whether a file is an ELF file: it has room for a header, and begins as one
abbrev pub is_elf : List ℕ → Bool
is_elf bytes = leb 64 (length bytes) && eqb (field bytes 0 4) (number (127 ∷ ascii "ELF"))

-- the numbers of the refusals
abbrev pub not_class64 : ℕ
not_class64 = 1

abbrev pub not_little_endian : ℕ
not_little_endian = 2

abbrev pub not_itanium : ℕ
not_itanium = 3

abbrev pub relocatable : ℕ
relocatable = 4

abbrev pub number_of : Refusal → ℕ
number_of NotClass64 = not_class64
number_of NotLittleEndian = not_little_endian
number_of NotItanium = not_itanium
number_of Relocatable = relocatable

-- the number of a refusal, and `accepted` where there is none
abbrev pub as_taken : Result (Unit {0}) Refusal → ℕ
as_taken (Ok u) = accepted
as_taken (Err refusal) = number_of refusal

-- when an ELF file is refused: by e_ident's class and data, e_machine and e_type
abbrev pub elf_refusals : List ℕ → List Reason
elf_refusals bytes =
    (not_class64, not (eqb (field bytes 4 1) 2))
    ∷ (not_little_endian, not (eqb (field bytes 5 1) 1))
    ∷ (not_itanium, not (eqb (field bytes 18 2) 50))
    ∷ (relocatable, eqb (field bytes 16 2) 1)
    ∷ []

-- where its section headers and its program headers stand: e_shoff, e_shentsize, e_shnum; e_phoff, e_phentsize, e_phnum
unfoldable pub tables_of : List ℕ → Tables
tables_of bytes =
    record {
      sections = record { offset = field bytes 40 8; size = field bytes 58 2; count = field bytes 60 2 };
      segments = record { offset = field bytes 32 8; size = field bytes 54 2; count = field bytes 56 2 };
    }

-- what a file's first bytes say, of one that is no ELF file nothing, with the number of a refusal
abbrev pub as_header : Result (Option Tables) Refusal → Result (Option Tables) ℕ
as_header (Ok tables) = Ok tables
as_header (Err refusal) = Err (number_of refusal)

unfoldable pub elf_header : List ℕ → Result (Option Tables) ℕ
elf_header bytes = cond (is_elf bytes) (outcome (first (elf_refusals bytes)) (Ok (Some (tables_of bytes))) (Err (first (elf_refusals bytes)))) (Ok None)

-- where header k of a table stands in a file of so many bytes: nowhere, where there is none, or not all of its `need` bytes are in the file
unfoldable pub header_place : Table → ℕ → ℕ → ℕ → Option ℕ
header_place t k need length = cond (ltb k t.count && leb (t.offset + t.size * k + need) length) (Some (t.offset + t.size * k)) None

-- what a header says whose fields stand so: its part is code where the kind is 1 and the flags have the bit of what is executed
abbrev pub part_by : Fields → List ℕ → Option Extent
part_by f bytes =
    cond (leb f.header (length bytes))
    (Some
    (record {
      code = eqb (field bytes f.kind 4) 1 && eqb (bit (field bytes f.flags f.width) f.executed) 1;
      address = field bytes 16 8;
      offset = field bytes f.offset 8;
      size = field bytes 32 8;
    }))
    None

-- those fields lie in the header
pub record Lies (f : Fields) : Type 0 where
  pub kind : f.kind + 4 ≤ f.header
  pub flags : f.flags + f.width ≤ f.header
  pub width : f.width ≤ 8
  pub executed : f.executed < 64
  pub offset : f.offset + 8 ≤ f.header
  pub size : 40 ≤ f.header

-- what a section header says: it is code where sh_type is PROGBITS and sh_flags has EXECINSTR; sh_addr, sh_offset, sh_size
unfoldable pub section_of : List ℕ → Option Extent
section_of bytes =
    cond (leb 64 (length bytes))
    (Some
    (record { code = eqb (field bytes 4 4) 1 && eqb (bit (field bytes 8 8) 2) 1; address = field bytes 16 8; offset = field bytes 24 8; size = field bytes 32 8 }))
    None

-- what a program header says: it is code where p_type is LOAD and p_flags has X; p_vaddr, p_offset, p_filesz
unfoldable pub segment_of : List ℕ → Option Extent
segment_of bytes =
    cond (leb 56 (length bytes))
    (Some
    (record { code = eqb (field bytes 0 4) 1 && eqb (bit (field bytes 4 4) 0) 1; address = field bytes 16 8; offset = field bytes 8 8; size = field bytes 32 8 }))
    None
