-- Records of a table, as the code holds them.
use Rattle.std.specs.Prelude.{ℕ, List}
use Rattle.lists.specs.Bytes.{word32}
use Rattle.standard.specs.declared.records.Record.{Record}
use Rattle.standard.specs.declared.records.Records.{Records}
use Rattle.standard.specs.Names.{Name, name}

-- The name of a record.
abbrev pub name_of : Record → Name
name_of r = name r.word.now (word32 r.chars.now 0) (word32 r.chars.now 4)

-- The bytes of those that are still to come.
abbrev pub bytes_left : Records → List ℕ
bytes_left s = s.rest.now
