-- Which areas lie within which.
use Rattle.step_laws.specs.Map.{Word, Pend, Stop, Run, Lock, Size, Place, Tlb, Hsm}
use Rattle.guest_ram.specs.Areas.{AnyWord, IsAside, IsInner, IsSteady, IsOfSection, IsOfTable, IsOfOutput, IsOfRam, IsOfPlaces, IsOfStates, IsOfService, IsOfCalls, IsOfEnd, IsApart}

pub any_word : (A : Word → Type 0) (w : Word) → A w → AnyWord w
any_word A w x = tt

pub section_steady : (w : Word) → IsOfSection w → IsSteady w
section_steady Stop x = absurd x
section_steady (Place t s k) x = absurd x
section_steady w x = tt

pub output_steady : (w : Word) → IsOfOutput w → IsSteady w
output_steady Stop x = absurd x
output_steady (Place t s k) x = absurd x
output_steady w x = tt

pub ram_steady : (w : Word) → IsOfRam w → IsSteady w
ram_steady Stop x = absurd x
ram_steady (Place t s k) x = absurd x
ram_steady w x = tt

pub table_steady : (w : Word) → IsOfTable w → IsSteady w
table_steady Stop x = absurd x
table_steady (Place t s k) x = absurd x
table_steady w x = tt

pub inner_aside : (w : Word) → IsInner w → IsAside w
inner_aside Pend x = absurd x
inner_aside (Run a) x = absurd x
inner_aside w x = tt

pub output_inner : (w : Word) → IsOfOutput w → IsInner w
output_inner Pend x = absurd x
output_inner (Run a) x = absurd x
output_inner (Place t s k) x = absurd x
output_inner (Hsm h) x = absurd x
output_inner w x = tt

pub ram_inner : (w : Word) → IsOfRam w → IsInner w
ram_inner Pend x = absurd x
ram_inner (Run a) x = absurd x
ram_inner (Place t s k) x = absurd x
ram_inner (Hsm h) x = absurd x
ram_inner w x = tt

pub table_inner : (w : Word) → IsOfTable w → IsInner w
table_inner Pend x = absurd x
table_inner (Run a) x = absurd x
table_inner (Place t s k) x = absurd x
table_inner (Hsm h) x = absurd x
table_inner w x = tt

pub places_aside : (w : Word) → IsOfPlaces w → IsAside w
places_aside Pend x = absurd x
places_aside (Run a) x = absurd x
places_aside w x = tt

pub states_aside : (w : Word) → IsOfStates w → IsAside w
states_aside Pend x = absurd x
states_aside (Run a) x = absurd x
states_aside w x = tt

pub calls_inner : (w : Word) → IsOfCalls w → IsInner w
calls_inner Pend x = absurd x
calls_inner (Run a) x = absurd x
calls_inner (Place t s k) x = absurd x
calls_inner (Hsm h) x = absurd x
calls_inner w x = tt

pub calls_steady : (w : Word) → IsOfCalls w → IsSteady w
calls_steady Stop x = absurd x
calls_steady (Place t s k) x = absurd x
calls_steady w x = tt

pub places_service : (w : Word) → IsOfPlaces w → IsOfService w
places_service (Place t s k) x = tt
places_service w x = absurd x

pub section_apart : (w : Word) → IsOfSection w → IsApart w
section_apart (Place t s k) x = absurd x
section_apart (Lock h) x = absurd x
section_apart (Size h) x = absurd x
section_apart (Tlb h j f) x = absurd x
section_apart w x = tt

pub ram_apart : (w : Word) → IsOfRam w → IsApart w
ram_apart (Place t s k) x = absurd x
ram_apart (Lock h) x = absurd x
ram_apart (Size h) x = absurd x
ram_apart (Tlb h j f) x = absurd x
ram_apart w x = tt

pub end_apart : (w : Word) → IsOfEnd w → IsApart w
end_apart (Place t s k) x = absurd x
end_apart (Lock h) x = absurd x
end_apart (Size h) x = absurd x
end_apart (Tlb h j f) x = absurd x
end_apart w x = tt
