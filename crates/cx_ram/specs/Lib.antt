pub mod LittleEndian
pub mod PhysicalMemory
pub mod Flat
pub mod Agreement
