use Rattle.address_put.proofs.New.{flag-text, flag-data, flag-bss, flag-nothing}
use Rattle.address_put.proofs.kind_follows.Goals as goal

pub returns-then-flag-eq-TEXT : goal.returns-then-flag-eq-TEXT
returns-then-flag-eq-TEXT c = flag-text _ c.flags-flag.ensures c.if-flag-eq-TEXT.true

pub returns-then-flag-eq-DATA : goal.returns-then-flag-eq-DATA
returns-then-flag-eq-DATA c = flag-data _ c.flags-flag.ensures c.if-flag-eq-TEXT.false c.if-flag-eq-DATA.true

pub returns-then-flag-eq-BSS : goal.returns-then-flag-eq-BSS
returns-then-flag-eq-BSS c = flag-bss _ c.flags-flag.ensures c.if-flag-eq-TEXT.false c.if-flag-eq-DATA.false c.if-flag-eq-BSS.true

pub returns : goal.returns
returns c = flag-nothing _ c.flags-flag.ensures c.if-flag-eq-TEXT.false c.if-flag-eq-DATA.false c.if-flag-eq-BSS.false
