use Rattle.word.proofs.Test.{found}
use Rattle.module.specs.Module.{parts_check}
use Rattle.module_layout.proofs.check_parts.Goals as goal

pub returns-then-not-do_numbers_agree : goal.returns-then-not-do_numbers_agree
unfolding parts_check
returns-then-not-do_numbers_agree c = rw (found c.do_numbers_agree.ensures c.if-not-do_numbers_agree.true)

pub returns-then-not-do_sizes_agree : goal.returns-then-not-do_sizes_agree
unfolding parts_check
returns-then-not-do_sizes_agree c = rw (found c.do_numbers_agree.ensures c.if-not-do_numbers_agree.false, found c.do_sizes_agree.ensures c.if-not-do_sizes_agree.true)

pub returns-then-any_lacks_data : goal.returns-then-any_lacks_data
unfolding parts_check
returns-then-any_lacks_data c = rw (found c.do_numbers_agree.ensures c.if-not-do_numbers_agree.false, found c.do_sizes_agree.ensures c.if-not-do_sizes_agree.false, found c.any_lacks_data.ensures c.if-any_lacks_data.true)

pub returns-then-not-is_anchor : goal.returns-then-not-is_anchor
unfolding parts_check
returns-then-not-is_anchor c = rw (found c.do_numbers_agree.ensures c.if-not-do_numbers_agree.false, found c.do_sizes_agree.ensures c.if-not-do_sizes_agree.false, found c.any_lacks_data.ensures c.if-any_lacks_data.false, found c.is_anchor.ensures c.if-not-is_anchor.true)

pub returns-then-not-is_anchor-2 : goal.returns-then-not-is_anchor-2
unfolding parts_check
returns-then-not-is_anchor-2 c = rw (found c.do_numbers_agree.ensures c.if-not-do_numbers_agree.false, found c.do_sizes_agree.ensures c.if-not-do_sizes_agree.false, found c.any_lacks_data.ensures c.if-any_lacks_data.false, found c.is_anchor.ensures c.if-not-is_anchor.false, found c.is_anchor-2.ensures c.if-not-is_anchor-2.true)

pub returns-then-is_bss_below : goal.returns-then-is_bss_below
unfolding parts_check
returns-then-is_bss_below c = rw (found c.do_numbers_agree.ensures c.if-not-do_numbers_agree.false, found c.do_sizes_agree.ensures c.if-not-do_sizes_agree.false, found c.any_lacks_data.ensures c.if-any_lacks_data.false, found c.is_anchor.ensures c.if-not-is_anchor.false, found c.is_anchor-2.ensures c.if-not-is_anchor-2.false, found c.is_bss_below.ensures c.if-is_bss_below.true)

pub is_image_past-requires : goal.is_image_past-requires
is_image_past-requires c = found c.is_bss_below.ensures c.if-is_bss_below.false

pub returns-then-is_image_past : goal.returns-then-is_image_past
unfolding parts_check
returns-then-is_image_past c = rw (found c.do_numbers_agree.ensures c.if-not-do_numbers_agree.false, found c.do_sizes_agree.ensures c.if-not-do_sizes_agree.false, found c.any_lacks_data.ensures c.if-any_lacks_data.false, found c.is_anchor.ensures c.if-not-is_anchor.false, found c.is_anchor-2.ensures c.if-not-is_anchor-2.false, found c.is_bss_below.ensures c.if-is_bss_below.false, found c.is_image_past.ensures c.if-is_image_past.true)

pub returns : goal.returns
unfolding parts_check
returns c = rw (found c.do_numbers_agree.ensures c.if-not-do_numbers_agree.false, found c.do_sizes_agree.ensures c.if-not-do_sizes_agree.false, found c.any_lacks_data.ensures c.if-any_lacks_data.false, found c.is_anchor.ensures c.if-not-is_anchor.false, found c.is_anchor-2.ensures c.if-not-is_anchor-2.false, found c.is_bss_below.ensures c.if-is_bss_below.false, found c.is_image_past.ensures c.if-is_image_past.false)
