pub mod HostFaults
pub mod Walks
