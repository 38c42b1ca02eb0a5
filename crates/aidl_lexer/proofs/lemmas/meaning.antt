pub mod OneLexing
