pub mod Lines
pub mod Goes
pub mod Outputs
pub mod OneEnd
