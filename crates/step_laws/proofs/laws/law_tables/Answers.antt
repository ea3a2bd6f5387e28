use Rattle.step_laws.proofs.Slots.{table_facts, slot_facts}
use Rattle.step_laws.proofs.Stores.{store_law, boot_law}
use Rattle.step_laws.proofs.laws.law_tables.Goals as goal

pub returns-clause-facts : goal.returns-clause-facts
returns-clause-facts c = table_facts

pub returns-clause-stores : goal.returns-clause-stores
returns-clause-stores c = store_law

pub returns-clause-boot : goal.returns-clause-boot
returns-clause-boot c = boot_law

pub returns-clause-slots : goal.returns-clause-slots
returns-clause-slots c = slot_facts
