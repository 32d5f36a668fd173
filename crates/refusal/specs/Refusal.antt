-- The numbers that are given back: a refusal is a number and an item.
use Rattle.std.specs.Prelude.{ℕ, Bool, true, false, cond, is_err}
use Rattle.refusal.specs.declared.LimitItem.{LimitItem}
use Rattle.refusal.specs.declared.LimitItem.TheVariants.{File, Sections, LoaderSymbols, SheetList, Relocations, DataImage, SalvageReport}
use Rattle.refusal.specs.declared.BoundsItem.{BoundsItem}
use Rattle.refusal.specs.declared.BoundsItem.TheVariants.{RawData, SectionTable, SymbolTable, StringTable}
use Rattle.refusal.specs.declared.AddressItem.{AddressItem}
use Rattle.refusal.specs.declared.AddressItem.TheVariants.{Misplaced, BssBelowData}
use Rattle.refusal.specs.declared.IndexItem.{IndexItem}
use Rattle.refusal.specs.declared.IndexItem.TheVariants.{NoSection, NoSymbol, NoLoaderSymbol, NoImportId, NoBench}
use Rattle.refusal.specs.declared.ModuleItem.{ModuleItem}
use Rattle.refusal.specs.declared.ModuleItem.TheVariants.{ShortAuxHeader, SectionSet, AuxHeaderDiffers, NoRawData, EntryOrToc}
use Rattle.refusal.specs.declared.ThreadItem.{ThreadItem}
use Rattle.refusal.specs.declared.ThreadItem.TheVariants.{ThreadSection, ThreadSymbol}
use Rattle.refusal.specs.declared.LoaderItem.{LoaderItem}
use Rattle.refusal.specs.declared.LoaderItem.TheVariants.{ShortHeader, Version, SymbolsPast, RelocationsPast, ImportIdsPast, StringsPast}
use Rattle.refusal.specs.declared.PlanItem.{PlanItem}
use Rattle.refusal.specs.declared.PlanItem.TheVariants.{TextAddress, DataAddress, ImportAddress, SectionAddress}
use Rattle.refusal.specs.declared.RoomItem.{RoomItem}
use Rattle.refusal.specs.declared.RoomItem.TheVariants.{TextBuffer, SheetBuffer, RowBuffer, RecordBuffer, ObjectBuffer, FileBuffer, DataBuffer, AddressList}
use Rattle.refusal.specs.declared.Refusal.{Refusal}
use Rattle.refusal.specs.declared.Refusal.TheVariants.{Short, Magic, Limit, Kind, Bounds, Address, Strings, Index, Aux, Name, Scnum, Csect, Module, Thread, Loader, Lsym, Lrel, SectionLrel, Overlap, SectionOverlap, Plan, Room, Sheet, Record, Form, Clash, Range, Full, Absent, Long, Shared, Visibility, NoLine, Group}
use Rattle.refusal.specs.declared.Head.{Head}
use Rattle.refusal.specs.Verdict.{Verdict}

-- document 01's number for each case
abbrev pub number_of : Refusal → ℕ
number_of Short = 1
number_of Magic = 2
number_of (Limit i) = 3
number_of (Kind i) = 4
number_of (Bounds i) = 5
number_of (Address i) = 6
number_of Strings = 7
number_of (Index i) = 8
number_of (Aux i) = 9
number_of (Name i) = 10
number_of (Scnum i) = 11
number_of (Csect i) = 12
number_of (Module i) = 13
number_of (Thread i) = 14
number_of (Loader i) = 15
number_of (Lsym i) = 16
number_of (Lrel i) = 17
number_of (SectionLrel e) = 17
number_of (Overlap i) = 18
number_of (SectionOverlap e) = 18
number_of (Plan i) = 19
number_of (Room i) = 20
number_of Sheet = 21
number_of (Record i) = 22
number_of Form = 23
number_of Clash = 24
number_of (Range e) = 25
number_of Full = 26
number_of Absent = 27
number_of Long = 28
number_of Shared = 29
number_of (Visibility i) = 30
number_of NoLine = 31
number_of Group = 32

-- the items of the numbers that name several things
abbrev pub limit_item : LimitItem → ℕ
limit_item File = 0
limit_item Sections = 1
limit_item LoaderSymbols = 2
limit_item SheetList = 2
limit_item Relocations = 3
limit_item DataImage = 4
limit_item SalvageReport = 5

abbrev pub bounds_item : BoundsItem → ℕ
bounds_item (RawData i) = i.0
bounds_item (SectionTable i) = i.0
bounds_item SymbolTable = 0
bounds_item StringTable = 0

abbrev pub address_item : AddressItem → ℕ
address_item (Misplaced i) = i.0
address_item (BssBelowData i) = i.0

abbrev pub index_item : IndexItem → ℕ
index_item (NoSection i) = i.0
index_item (NoSymbol i) = i.0
index_item (NoLoaderSymbol i) = i
index_item (NoImportId i) = i
index_item (NoBench i) = i

abbrev pub module_item : ModuleItem → ℕ
module_item ShortAuxHeader = 0
module_item SectionSet = 1
module_item AuxHeaderDiffers = 2
module_item NoRawData = 3
module_item EntryOrToc = 4

abbrev pub thread_item : ThreadItem → ℕ
thread_item (ThreadSection i) = i.0
thread_item (ThreadSymbol i) = i.0

abbrev pub loader_item : LoaderItem → ℕ
loader_item ShortHeader = 0
loader_item Version = 1
loader_item SymbolsPast = 2
loader_item RelocationsPast = 3
loader_item ImportIdsPast = 4
loader_item StringsPast = 5

abbrev pub plan_item : PlanItem → ℕ
plan_item TextAddress = 0
plan_item DataAddress = 1
plan_item (ImportAddress i) = i
plan_item (SectionAddress i) = i.0

abbrev pub room_item : RoomItem → ℕ
room_item TextBuffer = 0
room_item SheetBuffer = 0
room_item RowBuffer = 0
room_item RecordBuffer = 0
room_item ObjectBuffer = 0
room_item FileBuffer = 0
room_item DataBuffer = 1
room_item AddressList = 2

-- document 01's item for each case: 0 where none is named
abbrev pub item_of : Refusal → ℕ
item_of Short = 0
item_of Magic = 0
item_of (Limit i) = limit_item i
item_of (Kind i) = i.0
item_of (Bounds i) = bounds_item i
item_of (Address i) = address_item i
item_of Strings = 0
item_of (Index i) = index_item i
item_of (Aux i) = i.0
item_of (Name i) = i.0
item_of (Scnum i) = i.0
item_of (Csect i) = i.0
item_of (Module i) = module_item i
item_of (Thread i) = thread_item i
item_of (Loader i) = loader_item i
item_of (Lsym i) = i
item_of (Lrel i) = i.0
item_of (SectionLrel e) = e.number
item_of (Overlap i) = i.0
item_of (SectionOverlap e) = e.number
item_of (Plan i) = plan_item i
item_of (Room i) = room_item i
item_of Sheet = 0
item_of (Record i) = i
item_of Form = 0
item_of Clash = 0
item_of (Range e) = e.number
item_of Full = 0
item_of Absent = 0
item_of Long = 0
item_of Shared = 0
item_of (Visibility i) = i.0
item_of NoLine = 0
item_of Group = 0

-- what every report starts with: three zeros where the call is accepted
abbrev pub accepted_head : Head
accepted_head = record { number = 0; item = 0; offset = 0 }

-- a refusal's number and item, and the offset of what the item names
abbrev pub refused_head : Refusal → ℕ → Head
refused_head x offset = record { number = number_of x; item = item_of x; offset = offset }

-- 1 for yes, 0 for no
abbrev pub one_if : Bool → ℕ
one_if b = cond b 1 0

abbrev pub is_refused : Verdict → Bool
is_refused v = is_err v
