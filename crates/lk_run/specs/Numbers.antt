-- Law: which numbers the constants are that definitions name.
use Rattle.std.specs.Prelude.{◌≡◌}
use Rattle.lk_devices.specs.declared.limit.TheConstants.{LONGEST_INPUT}
use Rattle.lk_image.specs.declared.error.TheConstants.{LONGEST_IMAGE}
use Rattle.lk_link.specs.declared.alignment.TheConstants.{GREATEST_ALIGNMENT}
use Rattle.lk_link.specs.declared.flags.TheConstants.ValueFlags as flag
use Rattle.lk_link.specs.declared.limits.TheConstants as limits
use Rattle.lk_link.specs.declared.plan.attributes.TheConstants as attributes
use Rattle.lk_link.specs.declared.tables.TheConstants.{GREATEST_ENTRY}
use Rattle.lk_run.specs.declared.words.TheConstants.{MOST_WORKERS, MOST_OBJECTS}
use Rattle.lk_thunks.specs.declared.arch.TheConstants.{MOST_THUNK}

-- how long the lists of a description may be
pub record LimitsAreThese : Type 0 where
  pub groups : limits.GROUPS ≡ 65535
  pub files : limits.FILES ≡ 16777216
  pub sections : limits.OUTPUT_SECTIONS ≡ 65279
  pub parts : limits.PARTS ≡ 1048576
  pub segments : limits.SEGMENTS ≡ 64
  pub regions : limits.REGIONS ≡ 64
  pub events : limits.EVENTS ≡ 262144
  pub symbols : limits.SYMBOLS ≡ 16777216
  pub inputs : limits.INPUT_SECTIONS ≡ 16777216
  pub candidates : limits.CANDIDATES ≡ 16777216
  pub relocations : limits.RELOCATIONS ≡ 16777216
  pub relaxations : limits.RELAXATIONS ≡ 16777216
  pub names : limits.NAME_BYTES ≡ 2147483647
  pub merged : limits.MERGE_BYTES ≡ 1099511627776
  pub unit : limits.MERGE_UNIT ≡ 256

-- what its rules hold numbers to
pub record RulesGoByThese : Type 0 where
  pub attributes : limits.ATTRIBUTE_SETS ≡ 32
  pub flags : limits.GIVEN_FLAG_SETS ≡ 64
  pub branch : limits.MOST_NEAR_BRANCH ≡ 2097152
  pub bucket : limits.MOST_BUCKET ≡ 268435456
  pub group : limits.MOST_MERGE_GROUP ≡ 4294967296
  pub depth : limits.MOST_DEPTH ≡ 100
  pub code : limits.MOST_PRIMARY_ALIGNMENT ≡ 16
  pub alignment : GREATEST_ALIGNMENT ≡ 65536

-- the bits of attributes
pub record AttributesAreThese : Type 0 where
  pub alloc : attributes.ALLOC ≡ 1
  pub write : attributes.WRITE ≡ 2
  pub exec : attributes.EXEC ≡ 4
  pub thread_local : attributes.TLS ≡ 8
  pub nobits : attributes.NOBITS ≡ 16

-- the bits of flags
pub record FlagsAreThese : Type 0 where
  pub absolute : flag.ABSOLUTE.0 ≡ 1
  pub dynamic : flag.DYNAMIC.0 ≡ 2
  pub ifunc : flag.IFUNC.0 ≡ 4
  pub local : flag.DOWNGRADE_LOCAL.0 ≡ 8
  pub signature : flag.GROUP_SIGNATURE.0 ≡ 16
  pub interposable : flag.INTERPOSABLE.0 ≡ 32
  pub direct : flag.DIRECT.0 ≡ 64
  pub got : flag.GOT.0 ≡ 128
  pub plt : flag.PLT.0 ≡ 256
  pub offset : flag.GOT_TLS_OFFSET.0 ≡ 512
  pub modules : flag.GOT_TLS_MODULE.0 ≡ 1024
  pub descriptor : flag.GOT_TLS_DESCRIPTOR.0 ≡ 2048
  pub size : flag.SYMBOL_SIZE.0 ≡ 4096
  pub exported : flag.EXPORT_DYNAMIC.0 ≡ 8192
  pub limited : flag.HAS_RANGE_LIMITED_REL.0 ≡ 16384

-- the numbers of machines and runs
pub record RunsGoByThese : Type 0 where
  pub entry : GREATEST_ENTRY ≡ 65536
  pub thunk : MOST_THUNK ≡ 65536
  pub input : LONGEST_INPUT ≡ 1073741824
  pub image : LONGEST_IMAGE ≡ 1073741824
  pub workers : MOST_WORKERS ≡ 64
  pub objects : MOST_OBJECTS ≡ 100000

-- all of them
abbrev pub NumbersAreThese : Type 0
NumbersAreThese = LimitsAreThese × RulesGoByThese × AttributesAreThese × FlagsAreThese × RunsGoByThese
