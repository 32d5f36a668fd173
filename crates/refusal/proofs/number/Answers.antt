use Rattle.refusal.proofs.number.Goals as goal

pub returns-in-Short : goal.returns-in-Short
returns-in-Short c = rw c.in-Short.is

pub returns-in-Magic : goal.returns-in-Magic
returns-in-Magic c = rw c.in-Magic.is

pub returns-in-Limit : goal.returns-in-Limit
returns-in-Limit c = rw c.in-Limit.is

pub returns-in-Kind : goal.returns-in-Kind
returns-in-Kind c = rw c.in-Kind.is

pub returns-in-Bounds : goal.returns-in-Bounds
returns-in-Bounds c = rw c.in-Bounds.is

pub returns-in-Address : goal.returns-in-Address
returns-in-Address c = rw c.in-Address.is

pub returns-in-Strings : goal.returns-in-Strings
returns-in-Strings c = rw c.in-Strings.is

pub returns-in-Index : goal.returns-in-Index
returns-in-Index c = rw c.in-Index.is

pub returns-in-Aux : goal.returns-in-Aux
returns-in-Aux c = rw c.in-Aux.is

pub returns-in-Name : goal.returns-in-Name
returns-in-Name c = rw c.in-Name.is

pub returns-in-Scnum : goal.returns-in-Scnum
returns-in-Scnum c = rw c.in-Scnum.is

pub returns-in-Csect : goal.returns-in-Csect
returns-in-Csect c = rw c.in-Csect.is

pub returns-in-Module : goal.returns-in-Module
returns-in-Module c = rw c.in-Module.is

pub returns-in-Thread : goal.returns-in-Thread
returns-in-Thread c = rw c.in-Thread.is

pub returns-in-Loader : goal.returns-in-Loader
returns-in-Loader c = rw c.in-Loader.is

pub returns-in-Lsym : goal.returns-in-Lsym
returns-in-Lsym c = rw c.in-Lsym.is

pub returns-in-Lrel : goal.returns-in-Lrel
returns-in-Lrel c = rw c.in-Lrel.is

pub returns-in-SectionLrel : goal.returns-in-SectionLrel
returns-in-SectionLrel c = rw c.in-SectionLrel.is

pub returns-in-Overlap : goal.returns-in-Overlap
returns-in-Overlap c = rw c.in-Overlap.is

pub returns-in-SectionOverlap : goal.returns-in-SectionOverlap
returns-in-SectionOverlap c = rw c.in-SectionOverlap.is

pub returns-in-Plan : goal.returns-in-Plan
returns-in-Plan c = rw c.in-Plan.is

pub returns-in-Room : goal.returns-in-Room
returns-in-Room c = rw c.in-Room.is

pub returns-in-Sheet : goal.returns-in-Sheet
returns-in-Sheet c = rw c.in-Sheet.is

pub returns-in-Record : goal.returns-in-Record
returns-in-Record c = rw c.in-Record.is

pub returns-in-Form : goal.returns-in-Form
returns-in-Form c = rw c.in-Form.is

pub returns-in-Clash : goal.returns-in-Clash
returns-in-Clash c = rw c.in-Clash.is

pub returns-in-Range : goal.returns-in-Range
returns-in-Range c = rw c.in-Range.is

pub returns-in-Full : goal.returns-in-Full
returns-in-Full c = rw c.in-Full.is

pub returns-in-Absent : goal.returns-in-Absent
returns-in-Absent c = rw c.in-Absent.is

pub returns-in-Long : goal.returns-in-Long
returns-in-Long c = rw c.in-Long.is

pub returns-in-Shared : goal.returns-in-Shared
returns-in-Shared c = rw c.in-Shared.is

pub returns-in-Visibility : goal.returns-in-Visibility
returns-in-Visibility c = rw c.in-Visibility.is

pub returns-in-NoLine : goal.returns-in-NoLine
returns-in-NoLine c = rw c.in-NoLine.is

pub returns-in-Group : goal.returns-in-Group
returns-in-Group c = rw c.in-Group.is
