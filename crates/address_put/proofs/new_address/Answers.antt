use Rattle.address_put.proofs.New.{text-new, data-new, import-new, nothing-new, import-place}
use mathlib.Core.Path.{refl}
use Rattle.address_put.proofs.new_address.Goals as goal

pub import_address-requires : goal.import_address-requires
import_address-requires c = import-place _ c.in-Import.is c.requires

pub returns-in-Text : goal.returns-in-Text
returns-in-Text c = text-new _ _ _ _ _ c.in-Text.is c.add_address.ensures

pub returns-in-Data : goal.returns-in-Data
returns-in-Data c = data-new _ _ _ _ _ c.in-Data.is c.add_address-in-Data.ensures

pub returns-in-Import : goal.returns-in-Import
returns-in-Import c = import-new _ _ _ _ _ c.in-Import.is c.import_address.ensures

pub returns-in-Nothing : goal.returns-in-Nothing
returns-in-Nothing c = nothing-new _ _ _ _ _ c.in-Nothing.is refl
