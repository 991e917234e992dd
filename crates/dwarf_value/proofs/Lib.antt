pub mod Agreements
pub mod Congruences
pub mod Integers
pub mod MaskBits
pub mod ValueLaws
