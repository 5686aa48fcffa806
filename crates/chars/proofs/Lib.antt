pub mod AsciiTables
