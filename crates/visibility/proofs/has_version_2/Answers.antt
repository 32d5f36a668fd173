use Rattle.visibility.proofs.Version.{version-64, version-short, version-inside, version-read}
use Rattle.visibility.proofs.has_version_2.Goals as goal

pub returns-then-y-lt4 : goal.returns-then-y-lt4
returns-then-y-lt4 c = let a = c.args in version-short a.file.now a.y c.in-Xcoff32.is c.if-y-lt4.true

pub read_field-requires : goal.read_field-requires
read_field-requires c = let a = c.args in version-inside a.file.now a.y c.in-Xcoff32.is c.if-y-lt4.false c.header_layout-l.ensures c.at.ensures c.requires

pub returns-in-Xcoff64 : goal.returns-in-Xcoff64
returns-in-Xcoff64 c = let a = c.args in version-64 a.file.now a.y c.in-Xcoff64.is

pub returns-else-y-lt4 : goal.returns-else-y-lt4
returns-else-y-lt4 c = let a = c.args in version-read a.file.now a.y c.in-Xcoff32.is c.if-y-lt4.false c.header_layout-l.ensures c.at.ensures c.read_field.ensures.value
